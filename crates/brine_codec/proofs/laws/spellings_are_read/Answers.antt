use Rattle.brine_codec.proofs.Whole.{spelling_decoded}
use Rattle.brine_codec.proofs.laws.spellings_are_read.Goals as goal

pub returns : goal.returns
returns c = spelling_decoded
