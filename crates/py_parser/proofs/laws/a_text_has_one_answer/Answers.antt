use Rattle.py_parser.proofs.AnswerLaws.{one_tree, not_both}
use Rattle.py_parser.proofs.laws.a_text_has_one_answer.Goals as goal

pub returns-clause-one_tree : goal.returns-clause-one_tree
returns-clause-one_tree c = one_tree

pub returns-clause-not_both : goal.returns-clause-not_both
returns-clause-not_both c = not_both
