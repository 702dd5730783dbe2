use Rattle.py_ints.proofs.Division.{only}
use Rattle.py_ints.proofs.arithmetic_laws.division_has_one_answer.Goals as goal

pub returns : goal.returns
returns c = only
