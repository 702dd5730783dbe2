use Rattle.eval_targets.proofs.Receivers.{receiver_entered}
use Rattle.eval_targets.proofs.settled.enter_receiver.Goals as goal

pub returns-clause-means : goal.returns-clause-means
returns-clause-means c = receiver_entered c.args.env c.args.number c.args.frame c.args.stack.now.items c.push.new.self.items c.in_ok-push.ensures.items
