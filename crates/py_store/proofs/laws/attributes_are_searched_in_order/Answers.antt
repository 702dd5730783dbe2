use Rattle.py_store.proofs.Lines.{line_is_searched}
use Rattle.py_store.proofs.laws.attributes_are_searched_in_order.Goals as goal

pub returns : goal.returns
returns c = line_is_searched
