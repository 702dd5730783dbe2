use Rattle.py_plain.proofs.TupleOrder.{agrees}
use Rattle.py_plain.proofs.laws.order_agrees_with_equality.Goals as goal

pub returns : goal.returns
returns c = agrees
