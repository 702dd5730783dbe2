use Rattle.py_lexer.proofs.FilledLaw.{all_filled}
use Rattle.py_lexer.proofs.laws.blanks_stand_between_tokens.Goals as goal

pub returns : goal.returns
returns c = all_filled
