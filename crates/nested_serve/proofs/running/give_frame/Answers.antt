use Rattle.std.proofs.Common.{string_bytes}
use Rattle.eval_frames.specs.Meaning.{resume}
use Rattle.nested_serve.proofs.Steps.{lent}
use Rattle.nested_serve.proofs.running.give_frame.Goals as goal

pub returns-in_default : goal.returns-in_default
returns-in_default c = record {
  means = lent c.give.result c.args.machine.now.stack.items c.give.new.stack.items c.args.machine.now.store.cells c.give.new.store.cells c.args.machine.now.texts.items c.deref.result.now c.args.machine.now.handled c.args.machine.now.classes c.args.machine.now.printing (string_bytes c.args.machine.now.printed) (resume c.args.frame c.args.completion)
      c.deref.ensures.value c.give.ensures.means;
  light = c.give.ensures.light;
}
