use Rattle.brine_codec.proofs.Whole.{fine_before}
use Rattle.brine_codec.proofs.laws.faults_stand_at_the_first_place.Goals as goal

pub returns : goal.returns
returns c = fine_before
