use Rattle.std.proofs.Common.{◌≡◌, drop}
use Rattle.py_mentions.specs.Surroundings.{may_break, may_break_within}
use Rattle.py_mentions.proofs.surroundings.may_break.Given as goal

abbrev pub invariant-loop-construct : goal.invariant-loop-construct
invariant-loop-construct l = may_break_within l.may (drop l.construct-index l.constructs) ≡ may_break l.constructs
