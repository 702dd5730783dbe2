use Rattle.eval_targets.specs.declared.settled.Waiting.TheVariants as waiting
use Rattle.eval_loops.proofs.ForTurns.{waits_so}
use Rattle.eval_loops.proofs.items.wait_below.Goals as goal

pub returns-in-Receiver-clause-means : goal.returns-in-Receiver-clause-means
returns-in-Receiver-clause-means c =
    waits_so c.args.waiting (waiting.Receiver c.in-Receiver.env c.in-Receiver.number c.in-Receiver.frame) c.args.waits c.receiver_below.new.stack.items c.args.stack.now.items c.receiver_below.result c.in-Receiver.is c.receiver_below.ensures.means

pub returns-in-ReceiverOfEach-clause-means : goal.returns-in-ReceiverOfEach-clause-means
returns-in-ReceiverOfEach-clause-means c =
    waits_so c.args.waiting (waiting.ReceiverOfEach c.in-ReceiverOfEach.env c.in-ReceiverOfEach.number c.in-ReceiverOfEach.frame c.in-ReceiverOfEach.targets c.in-ReceiverOfEach.values) c.args.waits c.receiver_of_each_below.new.stack.items c.args.stack.now.items c.receiver_of_each_below.result
    c.in-ReceiverOfEach.is c.receiver_of_each_below.ensures.means

pub returns-in-Items-clause-means : goal.returns-in-Items-clause-means
returns-in-Items-clause-means c =
    waits_so c.args.waiting (waiting.Items c.in-Items.env c.in-Items.list c.in-Items.targets) c.args.waits c.items_below.new.stack.items c.args.stack.now.items c.items_below.result c.in-Items.is c.items_below.ensures.means
