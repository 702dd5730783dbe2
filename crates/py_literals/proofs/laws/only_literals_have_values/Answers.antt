use Rattle.py_literals.proofs.WholeLaws.{text_stands, bytes_stand}
use Rattle.py_literals.proofs.laws.only_literals_have_values.Goals as goal

pub returns-clause-texts : goal.returns-clause-texts
returns-clause-texts c = text_stands

pub returns-clause-byte_strings : goal.returns-clause-byte_strings
returns-clause-byte_strings c = bytes_stand
