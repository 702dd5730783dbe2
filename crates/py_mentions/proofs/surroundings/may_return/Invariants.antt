use Rattle.std.proofs.Common.{◌≡◌, drop}
use Rattle.py_mentions.specs.Surroundings.{may_return, may_return_within}
use Rattle.py_mentions.proofs.surroundings.may_return.Given as goal

abbrev pub invariant-loop-construct : goal.invariant-loop-construct
invariant-loop-construct l = may_return_within l.may (drop l.construct-index l.constructs) ≡ may_return l.constructs
