use Rattle.language_rules.specs.Going.{carry}
use Rattle.eval_frames.specs.declared.frame.Decision.TheVariants as decision
use Rattle.eval_frames.specs.declared.frame.Frame.TheVariants as frame
use Rattle.eval_comparing.proofs.Moving.{pushed}
use Rattle.eval_comparing.specs.Answers.{question_step}
use Rattle.eval_comparing.specs.Compared.{turned_by}
use Rattle.eval_exprs.proofs.links.ask_before_link.Goals as goal

pub returns-clause-means : goal.returns-clause-means
returns-clause-means c = pushed c.ask_question.result c.ask_question.new.stack.items c.args.stack.now.items c.push.new.self.items (frame.Test (decision.Link c.args.env c.args.right c.args.next c.args.waiting)) (turned_by c.args.turned (carry (question_step c.args.question))) c.in_ok-push.ensures.items c.ask_question.ensures.means
