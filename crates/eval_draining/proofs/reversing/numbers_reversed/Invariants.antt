use Rattle.std.proofs.Common.{◌≡◌, ◌++◌, length, reverse}
use Rattle.eval_draining.proofs.reversing.numbers_reversed.Given as goal

abbrev pub invariant-numbers : goal.invariant-numbers
invariant-numbers l = l.numbers ++ reverse l.reversed ≡ l.initial.numbers

abbrev pub decreases-numbers : goal.decreases-numbers
decreases-numbers l = length l.numbers
