use Rattle.py_ints.specs.IntLaws.{some_bytes, few_bytes, ascii_bytes}
use Rattle.py_ints.proofs.laws.int_texts_are_few.Goals as goal

pub returns : goal.returns
returns c = λ z h. (some_bytes z h, few_bytes z h, ascii_bytes z h)
