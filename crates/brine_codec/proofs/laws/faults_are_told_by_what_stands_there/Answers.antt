use Rattle.brine_codec.proofs.Whole.{told_alone}
use Rattle.brine_codec.proofs.laws.faults_are_told_by_what_stands_there.Goals as goal

pub returns : goal.returns
returns c = told_alone
