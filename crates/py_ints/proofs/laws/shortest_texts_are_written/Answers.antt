use Rattle.py_ints.specs.IntLaws.{written}
use Rattle.py_ints.proofs.laws.shortest_texts_are_written.Goals as goal

pub returns : goal.returns
returns c = written
