use Rattle.std.proofs.Common.{◌≡◌, drop, pos}
use Rattle.language_rules.specs.Ordering.{adds_up}
use Rattle.builtin_functions.proofs.sums.adds_up.Given as goal

-- the sum is that of the sum so far and of what is left
abbrev pub invariant-loop-n : goal.invariant-loop-n
invariant-loop-n l = adds_up (pos 0) l.ints ≡ adds_up l.sum (drop l.n-index l.ints)
