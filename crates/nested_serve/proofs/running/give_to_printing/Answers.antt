use Rattle.std.proofs.Common.{string_bytes}
use Rattle.eval_frames.specs.ObjectFrames.{through_printing}
use Rattle.nested_serve.proofs.Steps.{prints_over}
use Rattle.nested_serve.proofs.running.give_to_printing.Goals as goal

pub returns-clause-means : goal.returns-clause-means
returns-clause-means c =
    prints_over c.give_printing.result c.args.machine.now.stack.items c.give_printing.new.stack.items c.args.machine.now.store.cells c.args.machine.now.texts.items c.args.machine.now.handled c.args.machine.now.classes c.args.machine.now.printing (string_bytes c.args.machine.now.printed) (string_bytes c.give_printing.new.printed) (through_printing c.args.frame c.args.completion)
    c.give_printing.ensures.means
