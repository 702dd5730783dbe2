use Rattle.py_lexer.proofs.RefusalLaw.{refused_somewhere}
use Rattle.py_lexer.proofs.laws.refusals_have_their_places.Goals as goal

pub returns : goal.returns
returns c = refused_somewhere
