use Rattle.py_lexer.proofs.SpelledLaw.{all_spelled}
use Rattle.py_lexer.proofs.laws.tokens_are_spelled.Goals as goal

pub returns : goal.returns
returns c = all_spelled
