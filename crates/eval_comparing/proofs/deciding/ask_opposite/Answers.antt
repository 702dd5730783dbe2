use Rattle.language_rules.specs.Going.{carry}
use Rattle.eval_frames.specs.declared.frame.Frame.TheVariants as frame
use Rattle.eval_frames.specs.declared.object_frames.OperationFrame.TheVariants as operation_frame
use Rattle.eval_comparing.proofs.Moving.{pushed}
use Rattle.eval_comparing.specs.Answers.{question_step}
use Rattle.eval_comparing.proofs.deciding.ask_opposite.Goals as goal

pub returns-clause-means : goal.returns-clause-means
returns-clause-means c = pushed c.ask_within.result c.ask_within.new.stack.items c.args.stack.now.items c.push.new.self.items (frame.Operation operation_frame.Opposite) (carry (question_step c.args.question)) c.in_ok-push.ensures.items c.ask_within.ensures.means
