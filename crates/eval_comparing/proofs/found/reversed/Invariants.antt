use Rattle.std.proofs.Common.{◌≡◌, ◌++◌, length, reverse}
use Rattle.eval_comparing.proofs.found.reversed.Given as goal

abbrev pub invariant-items : goal.invariant-items
invariant-items l = l.items ++ reverse l.waiting ≡ l.initial.items

abbrev pub decreases-items : goal.decreases-items
decreases-items l = length l.items
