use Rattle.brine_codec.proofs.Whole.{fronts_cut}
use Rattle.brine_codec.proofs.laws.fronts_of_spellings_are_cut.Goals as goal

pub returns : goal.returns
returns c = fronts_cut
