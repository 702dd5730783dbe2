use Rattle.py_strs.proofs.OneSplit.{one_split}
use Rattle.py_strs.proofs.laws.pieces_are_unique.Goals as goal

pub returns : goal.returns
returns c = one_split
