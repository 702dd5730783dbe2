use Rattle.language_rules.specs.Going.{carry}
use Rattle.eval_comparing.specs.Answers.{question_step}
use Rattle.eval_comparing.specs.Compared.{turned_by}
use Rattle.eval_exprs.proofs.Operands.{tuples_before, tuples_last}
use Rattle.eval_exprs.proofs.links.ask_within_chain.Goals as goal

pub returns-in-Some-clause-means : goal.returns-in-Some-clause-means
returns-in-Some-clause-means c = tuples_before c.ask_before_link.result c.ask_before_link.new.stack.items c.args.stack.now.items c.args.env c.args.right c.args.waiting c.pop.new.self c.in-Some.next (turned_by c.args.turned (carry (question_step c.args.question))) (rw c.in-Some.is at c.pop.ensures) c.ask_before_link.ensures.means

pub returns-in-None-clause-means : goal.returns-in-None-clause-means
returns-in-None-clause-means c = let empty = rw c.in-None.is at c.pop.ensures in tuples_last c.ask_question.result c.ask_question.new.stack.items c.args.stack.now.items c.args.env c.args.right c.args.waiting (turned_by c.args.turned (carry (question_step c.args.question))) empty.0 c.ask_question.ensures.means
