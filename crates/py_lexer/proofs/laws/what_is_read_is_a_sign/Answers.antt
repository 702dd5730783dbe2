use Rattle.py_lexer.proofs.FrontLaws.{sign_is_one}
use Rattle.py_lexer.proofs.laws.what_is_read_is_a_sign.Goals as goal

pub returns : goal.returns
returns c = sign_is_one
