use Rattle.py_strs.proofs.Cuts.{rejoined}
use Rattle.py_strs.proofs.laws.pieces_join_to_the_text.Goals as goal

pub returns : goal.returns
returns c = rejoined
