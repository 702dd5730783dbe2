use Rattle.eval_targets.specs.declared.settled.Waiting.TheVariants as waiting
use Rattle.eval_targets.specs.Settled.{awaited}
use Rattle.eval_loops.proofs.ForTurns.{waits_below}
use Rattle.eval_loops.proofs.items.receiver_below.Goals as goal

pub returns-clause-means : goal.returns-clause-means
returns-clause-means c =
    waits_below (awaited (waiting.Receiver c.args.env c.args.number c.args.frame)) c.args.waits c.enter_receiver.new.stack.items c.args.stack.now.items c.push.new.self.items c.enter_receiver.result c.in_ok-push.ensures.items c.enter_receiver.ensures.means
