use Rattle.eval_calls.proofs.ParameterLemmas.{IsBound}
use Rattle.eval_calls.proofs.scopes.bind_parameters.Given as goal

-- the parameters so far
abbrev pub invariant-loop-i : goal.invariant-loop-i
invariant-loop-i l = IsBound l.parameters l.arguments l.names l.i
