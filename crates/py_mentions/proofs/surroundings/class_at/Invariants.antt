use Rattle.std.proofs.Common.{◌≡◌, drop}
use Rattle.py_mentions.specs.Surroundings.{class_at, class_within}
use Rattle.py_mentions.proofs.surroundings.class_at.Given as goal

abbrev pub invariant-loop-construct : goal.invariant-loop-construct
invariant-loop-construct l = class_within l.class (drop l.construct-index l.constructs) ≡ class_at l.constructs
