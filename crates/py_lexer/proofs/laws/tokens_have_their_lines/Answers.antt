use Rattle.py_lexer.proofs.LineLaw.{all_on_line}
use Rattle.py_lexer.proofs.laws.tokens_have_their_lines.Goals as goal

pub returns : goal.returns
returns c = all_on_line
