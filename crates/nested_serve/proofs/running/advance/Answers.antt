use Rattle.eval_frames.specs.declared.next.Next.TheVariants as next
use Rattle.nested_serve.proofs.Steps.{follows}
use Rattle.nested_serve.proofs.running.advance.Goals as goal

pub returns-in-Print-clause-run : goal.returns-in-Print-clause-run
returns-in-Print-clause-run c = follows c.advance_printing.result c.args.machine.now c.advance_printing.new.machine c.args.next (next.Print c.in-Print.values) c.args.fuel.now c.in-Print.is c.advance_printing.ensures

pub returns-in-Make-clause-run : goal.returns-in-Make-clause-run
returns-in-Make-clause-run c = follows c.advance_making.result c.args.machine.now c.advance_making.new.machine c.args.next (next.Make c.in-Make.cell) c.args.fuel.now c.in-Make.is c.advance_making.ensures
