use Rattle.py_literals.proofs.IntLaws.{decimal_value}
use Rattle.py_literals.proofs.laws.decimal_ints_are_read_back.Goals as goal

pub returns : goal.returns
returns c = decimal_value
