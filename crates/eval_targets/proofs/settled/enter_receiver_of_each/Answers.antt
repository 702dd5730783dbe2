use Rattle.eval_targets.proofs.Receivers.{receiver_of_each_entered}
use Rattle.eval_targets.proofs.settled.enter_receiver_of_each.Goals as goal

pub returns-clause-means : goal.returns-clause-means
returns-clause-means c =
    receiver_of_each_entered c.args.env c.args.number c.args.frame c.args.targets c.args.values c.args.stack.now.items c.push.new.self.items c.push-2.new.self.items c.in_ok-push.ensures.items c.in_ok-push-2.ensures.items
