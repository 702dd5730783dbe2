use Rattle.std.proofs.Common.{◌≡◌, ◌-◌, ◌≤◌, length, reverse}
use Rattle.language_rules.specs.Going.{executes_all}
use Rattle.eval_suites.specs.Within.{GoesOnAs}
use Rattle.eval_suites.proofs.suites.execute_waiting.Given as goal

abbrev pub invariant-statements : goal.invariant-statements
invariant-statements l =
    GoesOnAs l.texts l.initial.store (executes_all l.env (reverse l.initial.waiting)) (l.initial.fuel - l.fuel) l.store (executes_all l.env (reverse l.waiting))
    × (l.fuel ≤ l.initial.fuel) × (l.stack.items ≡ l.initial.stack.items)

abbrev pub decreases-statements : goal.decreases-statements
decreases-statements l = length l.waiting
