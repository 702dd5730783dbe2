use Rattle.std.proofs.Common.{◌≡◌, ◌++◌, length, reverse}
use Rattle.eval_draining.proofs.extending.push_all.Given as goal

abbrev pub invariant-waiting : goal.invariant-waiting
invariant-waiting l = l.items ++ reverse l.waiting ≡ l.initial.items ++ reverse l.initial.waiting

abbrev pub decreases-waiting : goal.decreases-waiting
decreases-waiting l = length l.waiting
