use Rattle.py_scope.proofs.FirstLaws.{one_worst}
use Rattle.py_scope.proofs.laws.one_is_first.Goals as goal

pub returns : goal.returns
returns c = one_worst
