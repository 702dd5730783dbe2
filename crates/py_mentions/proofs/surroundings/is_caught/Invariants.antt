use Rattle.std.proofs.Common.{◌≡◌, drop}
use Rattle.py_mentions.specs.Surroundings.{is_caught, is_caught_within}
use Rattle.py_mentions.proofs.surroundings.is_caught.Given as goal

abbrev pub invariant-loop-construct : goal.invariant-loop-construct
invariant-loop-construct l = is_caught_within l.program l.name l.is_caught (drop l.construct-index l.constructs) ≡ is_caught l.program l.name l.constructs
