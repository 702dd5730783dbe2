use Rattle.py_literals.proofs.WholeLaws.{bytes_read_back, texts_read_back}
use Rattle.py_literals.proofs.laws.escapes_are_read_back.Goals as goal

pub returns-clause-byte_strings : goal.returns-clause-byte_strings
returns-clause-byte_strings c = bytes_read_back

pub returns-clause-texts : goal.returns-clause-texts
returns-clause-texts c = texts_read_back
