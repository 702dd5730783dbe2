use Rattle.std.proofs.Common.{All, take, IsSome}
use Rattle.pair_run.specs.Scripts.{number_of}
use Rattle.pair_run.proofs.scripts.first_unbound.Given as goal

abbrev pub invariant-loop-index : goal.invariant-loop-index
invariant-loop-index l = All (λ c. IsSome (number_of l.bindings c)) (take l.index l.letters)
