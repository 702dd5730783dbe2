use Rattle.std.proofs.Common.{string_bytes}
use Rattle.eval_frames.specs.HandlerFrames.{through_handler}
use Rattle.nested_serve.proofs.Steps.{lent_handled}
use Rattle.nested_serve.proofs.running.give_to_handler.Goals as goal

pub returns-clause-means : goal.returns-clause-means
returns-clause-means c =
    lent_handled c.give_handler.result c.args.machine.now.stack.items c.give_handler.new.stack.items c.args.machine.now.store.cells c.args.machine.now.texts.items c.deref.result.now c.args.machine.now.handled c.give_handler.new.handled c.args.machine.now.classes c.args.machine.now.printing (string_bytes c.args.machine.now.printed) (through_handler c.args.frame c.args.completion)
    c.deref.ensures.value c.give_handler.ensures.means
