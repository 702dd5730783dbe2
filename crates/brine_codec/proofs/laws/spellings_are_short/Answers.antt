use Rattle.brine_codec.proofs.Lengths.{spelling_short}
use Rattle.brine_codec.proofs.laws.spellings_are_short.Goals as goal

pub returns : goal.returns
returns c = spelling_short
