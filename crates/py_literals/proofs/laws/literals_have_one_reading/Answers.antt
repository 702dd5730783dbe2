use Rattle.py_literals.proofs.WholeLaws.{same_items}
use Rattle.py_literals.proofs.laws.literals_have_one_reading.Goals as goal

pub returns-clause-items : goal.returns-clause-items
returns-clause-items c = same_items
