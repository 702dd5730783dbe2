use Rattle.std.proofs.Common.{◌≡◌, drop}
use Rattle.language_rules.specs.Ordering.{best_of}
use Rattle.builtin_functions.proofs.best.best.Given as goal

-- the best is that of the best so far and of what is left
abbrev pub invariant-loop-plain : goal.invariant-loop-plain
invariant-loop-plain l = best_of l.fn.op l.fn.first l.rest ≡ best_of l.fn.op l.best (drop l.plain-index l.rest)
