use Rattle.std.proofs.Common.{◌≡◌, drop}
use Rattle.py_mentions.specs.Surroundings.{may_raise, may_raise_within}
use Rattle.py_mentions.proofs.surroundings.may_raise.Given as goal

abbrev pub invariant-loop-construct : goal.invariant-loop-construct
invariant-loop-construct l = may_raise_within l.may (drop l.construct-index l.constructs) ≡ may_raise l.constructs
