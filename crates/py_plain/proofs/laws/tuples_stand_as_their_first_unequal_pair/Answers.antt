use Rattle.py_plain.proofs.TupleOrder.{first_pair, no_pair, shorter, longer}
use Rattle.py_plain.proofs.laws.tuples_stand_as_their_first_unequal_pair.Goals as goal

pub returns : goal.returns
returns c = record { pair = first_pair; none = no_pair; shorter = shorter; longer = longer }
