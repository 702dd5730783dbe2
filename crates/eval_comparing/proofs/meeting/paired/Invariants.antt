use Rattle.std.proofs.Common.{◌≡◌, ◌++◌, length, reverse}
use Rattle.eval_comparing.specs.Answers.{pairs_of}
use Rattle.eval_comparing.proofs.meeting.paired.Given as goal

abbrev pub invariant-items : goal.invariant-items
invariant-items l = (length l.lefts ≡ length l.rights) × (pairs_of l.lefts l.rights ++ reverse l.pairs ≡ pairs_of l.initial.lefts l.initial.rights)

abbrev pub decreases-items : goal.decreases-items
decreases-items l = length l.lefts
