use Rattle.py_lexer.proofs.SignLaws.{longest_sign}
use Rattle.py_lexer.proofs.laws.the_longest_sign_is_read.Goals as goal

pub returns : goal.returns
returns c = longest_sign
