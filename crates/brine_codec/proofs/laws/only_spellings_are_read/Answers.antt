use Rattle.brine_codec.proofs.Whole.{decoded_spelled}
use Rattle.brine_codec.proofs.laws.only_spellings_are_read.Goals as goal

pub returns : goal.returns
returns c = decoded_spelled
