use Rattle.eval_targets.specs.declared.settled.Waiting.TheVariants as waiting
use Rattle.eval_targets.proofs.Receivers.{waits_so}
use Rattle.eval_targets.proofs.settled.wait_for.Goals as goal

pub returns-in-Receiver-clause-means : goal.returns-in-Receiver-clause-means
returns-in-Receiver-clause-means c =
    waits_so c.args.waiting (waiting.Receiver c.in-Receiver.env c.in-Receiver.number c.in-Receiver.frame) c.enter_receiver.new.stack.items c.args.stack.now.items c.enter_receiver.result c.in-Receiver.is c.enter_receiver.ensures.means

pub returns-in-ReceiverOfEach-clause-means : goal.returns-in-ReceiverOfEach-clause-means
returns-in-ReceiverOfEach-clause-means c =
    waits_so c.args.waiting (waiting.ReceiverOfEach c.in-ReceiverOfEach.env c.in-ReceiverOfEach.number c.in-ReceiverOfEach.frame c.in-ReceiverOfEach.targets c.in-ReceiverOfEach.values) c.enter_receiver_of_each.new.stack.items c.args.stack.now.items c.enter_receiver_of_each.result
    c.in-ReceiverOfEach.is c.enter_receiver_of_each.ensures.means
