use Rattle.eval_handlers.proofs.Finally.{finally_done}
use Rattle.eval_handlers.proofs.steps.end_try.Goals as goal

pub returns-in-Some-clause-means : goal.returns-in-Some-clause-means
returns-in-Some-clause-means c =
    finally_done c.args.env c.args.last c.in-Some.suite c.args.texts.now c.begin_pending.new.stack.items c.args.stack.now.items c.begin_pending.result
    c.in-Some.is c.begin_pending.ensures.means
