use Rattle.brine_codec.proofs.Whole.{cut_at_end}
use Rattle.brine_codec.proofs.laws.cuts_stand_at_the_end.Goals as goal

pub returns : goal.returns
returns c = cut_at_end
