use Rattle.brine_codec.proofs.Whole.{byte_behind}
use Rattle.brine_codec.proofs.laws.bytes_behind_are_refused.Goals as goal

pub returns : goal.returns
returns c = byte_behind
