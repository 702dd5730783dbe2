use Rattle.std.proofs.Common.{◌≡◌, ◌++◌, length, reverse}
use Rattle.eval_draining.proofs.reversing.values_reversed.Given as goal

abbrev pub invariant-values : goal.invariant-values
invariant-values l = l.values ++ reverse l.reversed ≡ l.initial.values

abbrev pub decreases-values : goal.decreases-values
decreases-values l = length l.values
