use Rattle.std.proofs.Common.{◌≡◌, ◌≤◌}
use Rattle.language_rules.specs.States.{State}
use Rattle.nested_serve.specs.Machines.{ahead, course}
use Rattle.nested_serve.proofs.running.run.Given as goal

abbrev pub invariant-steps : goal.invariant-steps
invariant-steps l =
    ((fixed : State) → course fixed l.initial.machine l.initial.next l.initial.fuel ≡ course fixed l.machine l.next l.fuel) × (l.fuel ≤ l.initial.fuel)

abbrev pub decreases-steps : goal.decreases-steps
decreases-steps l = ahead l.machine l.next l.fuel
