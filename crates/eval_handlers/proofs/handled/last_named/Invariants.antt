use Rattle.std.proofs.Common.{◌≡◌, ◌≤◌, ◌++◌, drop, length, reverse, take}
use Rattle.language_rules.specs.Handlers.{unbinds}
use Rattle.eval_handlers.proofs.handled.last_named.Given as goal

-- behind the place none has the name
abbrev pub invariant-steps : goal.invariant-steps
invariant-steps l = (l.at ≤ length l.handled) × (unbinds l.env l.name (reverse l.handled) ≡ reverse (drop l.at l.handled) ++ unbinds l.env l.name (reverse (take l.at l.handled)))

abbrev pub decreases-steps : goal.decreases-steps
decreases-steps l = l.at
