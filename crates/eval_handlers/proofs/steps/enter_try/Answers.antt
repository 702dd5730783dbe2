use Rattle.std.proofs.Common.{◌∷◌, reverse}
use Rattle.side_trees.specs.Trees.{bind}
use Rattle.language_rules.specs.Going.{executes_all}
use Rattle.language_rules.specs.Raising.{handles, on_raised}
use Rattle.eval_frames.specs.declared.frame.Frame.TheVariants as frame
use Rattle.eval_frames.specs.declared.handler_frame.HandlerFrame.TheVariants as handler_frame
use Rattle.eval_handlers.proofs.Finally.{with_finally, without_finally}
use Rattle.eval_handlers.proofs.Pushing.{pushed}
use Rattle.eval_handlers.proofs.steps.enter_try.Goals as goal

pub returns-in_ok-push-in-Some-clause-means : goal.returns-in_ok-push-in-Some-clause-means
returns-in_ok-push-in-Some-clause-means c =
    with_finally (bind (executes_all c.args.env (c.args.number ∷ reverse c.args.waiting)) (on_raised (λ r. handles c.args.env r c.args.handlers))) c.args.env c.args.last c.in-Some.suite c.enter_handled.new.stack.items c.args.stack.now.items c.enter_handled.result
    c.in-Some.is
    (pushed (bind (executes_all c.args.env (c.args.number ∷ reverse c.args.waiting)) (on_raised (λ r. handles c.args.env r c.args.handlers))) (frame.Handler (handler_frame.Finally c.args.env c.in-Some.suite)) c.args.stack.now.items c.push.new.self.items c.enter_handled.new.stack.items c.enter_handled.result
    c.in_ok-push-in-Some.ensures.items c.enter_handled.ensures.means)

pub returns-in-None-clause-means : goal.returns-in-None-clause-means
returns-in-None-clause-means c =
    without_finally (bind (executes_all c.args.env (c.args.number ∷ reverse c.args.waiting)) (on_raised (λ r. handles c.args.env r c.args.handlers))) c.args.env c.args.last c.enter_handled-in-None.new.stack.items c.args.stack.now.items c.enter_handled-in-None.result
    c.in-None.is c.enter_handled-in-None.ensures.means
