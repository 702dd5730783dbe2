use Rattle.std.proofs.Common.{◌∷◌, reverse}
use Rattle.language_rules.specs.Going.{executes_all}
use Rattle.eval_frames.specs.declared.frame.Frame.TheVariants as frame
use Rattle.eval_frames.specs.declared.handler_frame.HandlerFrame.TheVariants as handler_frame
use Rattle.eval_handlers.proofs.Pushing.{pushed}
use Rattle.eval_handlers.proofs.steps.enter_handled.Goals as goal

pub returns-clause-means : goal.returns-clause-means
returns-clause-means c =
    pushed (executes_all c.args.env (c.args.number ∷ reverse c.args.waiting)) (frame.Handler (handler_frame.Try c.args.env c.args.handlers)) c.args.stack.now.items c.push.new.self.items c.enter_suite.new.stack.items c.enter_suite.result
    c.in_ok-push.ensures.items c.enter_suite.ensures.means
