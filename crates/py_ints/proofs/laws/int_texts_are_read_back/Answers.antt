use Rattle.py_ints.specs.IntLaws.{read_back}
use Rattle.py_ints.proofs.laws.int_texts_are_read_back.Goals as goal

pub returns : goal.returns
returns c = read_back
