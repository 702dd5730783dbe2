use Rattle.py_literals.proofs.WholeLaws.{text_has_value, bytes_have_value}
use Rattle.py_literals.proofs.laws.literals_have_values.Goals as goal

pub returns-clause-texts : goal.returns-clause-texts
returns-clause-texts c = text_has_value

pub returns-clause-byte_strings : goal.returns-clause-byte_strings
returns-clause-byte_strings c = bytes_have_value
