use Rattle.py_ints.specs.IntLaws.{shortest}
use Rattle.py_ints.proofs.laws.int_texts_are_shortest.Goals as goal

pub returns : goal.returns
returns c = shortest
