use Rattle.std.proofs.Common.{Ok, string_bytes}
use Rattle.language_rules.specs.Output.{prints}
use Rattle.nested_serve.proofs.Steps.{prints_over, printed_less}
use Rattle.nested_serve.proofs.running.advance_printing.Goals as goal

pub returns : goal.returns
returns c = λ units. (
  λ fixed. prints_over (Ok c.in_ok-next.next) c.args.machine.now.stack.items c.print.new.stack.items c.args.machine.now.store.cells c.args.machine.now.texts.items c.args.machine.now.handled c.args.machine.now.classes c.args.machine.now.printing (string_bytes c.args.machine.now.printed) (string_bytes c.print.new.printed) (prints c.args.values)
      c.in_ok-next.ensures.means fixed units,
  printed_less c.args.machine.now.stack.items c.print.new.stack.items c.in_ok-next.next units c.in_ok-next.ensures.light,
)
