use Rattle.std.proofs.Common.{◌≡◌, ◌++◌, length, reverse}
use Rattle.eval_searching.proofs.adding.reversed.Given as goal

abbrev pub invariant-values : goal.invariant-values
invariant-values l = l.items ++ reverse l.values ≡ l.initial.items

abbrev pub decreases-values : goal.decreases-values
decreases-values l = length l.items
