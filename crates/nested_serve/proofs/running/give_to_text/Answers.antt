use Rattle.std.proofs.Common.{string_bytes}
use Rattle.eval_frames.specs.ListFrames.{through_text}
use Rattle.nested_serve.proofs.Steps.{lent_printing}
use Rattle.nested_serve.proofs.running.give_to_text.Goals as goal

pub returns-clause-means : goal.returns-clause-means
returns-clause-means c =
    lent_printing c.give_text.result c.args.machine.now.stack.items c.give_text.new.stack.items c.args.machine.now.store.cells c.args.machine.now.texts.items c.args.machine.now.handled c.args.machine.now.classes c.args.machine.now.printing c.give_text.new.printing (string_bytes c.args.machine.now.printed) (through_text c.args.frame c.args.completion) c.give_text.ensures.means
