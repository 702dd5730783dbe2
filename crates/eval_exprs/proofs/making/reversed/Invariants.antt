use Rattle.std.proofs.Common.{◌≡◌, ◌++◌, length, reverse}
use Rattle.eval_exprs.proofs.making.reversed.Given as goal

abbrev pub invariant-values : goal.invariant-values
invariant-values l = l.values ++ reverse l.waiting ≡ l.initial.values

abbrev pub decreases-values : goal.decreases-values
decreases-values l = length l.values
