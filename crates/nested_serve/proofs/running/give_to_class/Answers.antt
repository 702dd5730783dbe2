use Rattle.std.proofs.Common.{string_bytes}
use Rattle.eval_frames.specs.ClassFrames.{through_class}
use Rattle.nested_serve.proofs.ClassSteps.{class_given}
use Rattle.nested_serve.proofs.running.give_to_class.Goals as goal

pub returns-in-Ok-clause-means : goal.returns-in-Ok-clause-means
returns-in-Ok-clause-means c =
    class_given c.give_class.result c.args.machine.now.stack.items c.give_class.new.stack.items c.args.machine.now.store.cells c.give_class.new.store.cells c.args.machine.now.texts.items c.deref.result.now c.args.machine.now.handled c.args.machine.now.classes c.give_class.new.classes c.args.machine.now.printing (string_bytes c.args.machine.now.printed) (through_class c.args.frame) c.args.completion c.in-Ok.value
    c.in-Ok.ensures c.deref.ensures.value c.give_class.ensures.means
