use Rattle.std.proofs.Common.{◌≡◌, drop}
use Rattle.py_mentions.specs.Surroundings.{function_at, function_within}
use Rattle.py_mentions.proofs.surroundings.function_at.Given as goal

abbrev pub invariant-loop-construct : goal.invariant-loop-construct
invariant-loop-construct l = function_within l.function (drop l.construct-index l.constructs) ≡ function_at l.constructs
