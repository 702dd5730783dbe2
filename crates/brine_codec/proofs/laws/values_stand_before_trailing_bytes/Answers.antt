use Rattle.brine_codec.proofs.Whole.{spelling_before}
use Rattle.brine_codec.proofs.laws.values_stand_before_trailing_bytes.Goals as goal

pub returns : goal.returns
returns c = spelling_before
