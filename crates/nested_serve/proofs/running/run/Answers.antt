use Rattle.std.proofs.Common.{sym, subst, arith}
use Rattle.language_rules.specs.Running.{ScriptEnd}
use Rattle.nested_serve.specs.Machines.{Ends}
use Rattle.nested_serve.proofs.Steps.{on_the_way}
use Rattle.nested_serve.proofs.running.run.Goals as goal

pub returns-in-Halted-clause-run : goal.returns-in-Halted-clause-run
returns-in-Halted-clause-run c = λ fixed.
    subst (λ (e : ScriptEnd). Ends fixed e c.in-Halted.halt c.advance.new.machine c.advance.new.fuel) (sym (c.steps.invariant.0 fixed)) ((rw c.in-Halted.is at c.in_ok-further.ensures.run) fixed)

pub steps-preserved : goal.steps-preserved
steps-preserved c =
    let goes = rw c.in-On.is at c.in_ok-further.ensures.run in (
      on_the_way c.args.machine.now c.steps.machine c.advance.new.machine c.args.first c.steps.next c.in-On.further c.args.fuel.now c.steps.fuel c.advance.new.fuel c.steps.invariant.0 goes.0 c.in_ok-further.ensures.spent,
      omega (arith, c.steps.invariant.1, c.in_ok-further.ensures.spent),
    )
