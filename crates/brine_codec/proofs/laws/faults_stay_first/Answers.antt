use Rattle.brine_codec.proofs.Whole.{faults_kept}
use Rattle.brine_codec.proofs.laws.faults_stay_first.Goals as goal

pub returns : goal.returns
returns c = faults_kept
