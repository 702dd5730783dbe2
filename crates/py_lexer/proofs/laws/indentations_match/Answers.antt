use Rattle.py_lexer.proofs.MatchLaw.{as_many, never_more}
use Rattle.py_lexer.proofs.laws.indentations_match.Goals as goal

pub returns-clause-whole : goal.returns-clause-whole
returns-clause-whole c = as_many

pub returns-clause-fronts : goal.returns-clause-fronts
returns-clause-fronts c = never_more
