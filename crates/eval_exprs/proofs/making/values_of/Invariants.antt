use Rattle.std.proofs.Common.{◌≡◌, ◌++◌, length, reverse}
use Rattle.eval_exprs.proofs.making.values_of.Given as goal

abbrev pub invariant-items : goal.invariant-items
invariant-items l = l.items ++ reverse l.values ≡ l.initial.items

abbrev pub decreases-items : goal.decreases-items
decreases-items l = length l.items
