use Rattle.std.proofs.Common.{◌∷◌, None, reverse}
use Rattle.side_trees.specs.Trees.{Return, bind}
use Rattle.language_rules.specs.Codes.{Raises}
use Rattle.language_rules.specs.Going.{changes, executes_all}
use Rattle.language_rules.specs.Handlers.{left}
use Rattle.eval_frames.specs.declared.frame.Frame.TheVariants as frame
use Rattle.eval_frames.specs.declared.handler_frame.HandlerFrame.TheVariants as handler_frame
use Rattle.eval_handlers.proofs.Pushing.{pushed}
use Rattle.eval_handlers.proofs.handlers.enter_raising_finally.Goals as goal

pub returns-clause-means : goal.returns-clause-means
returns-clause-means c =
    pushed (bind (executes_all c.args.env (c.args.number ∷ reverse c.args.waiting)) (λ a. changes (left c.args.env None) (Return a))) (frame.Handler (handler_frame.Pending (Raises c.args.raised))) c.args.stack.now.items c.push.new.self.items c.enter_handler.new.stack.items c.enter_handler.result
    c.in_ok-push.ensures.items c.enter_handler.ensures.means
