use Rattle.std.proofs.Common.{[]}
use Rattle.py_scope.specs.Names.{Each}
use Rattle.py_scope.proofs.name_set.empty_sets.Given as goal

abbrev pub invariant-loop-place : goal.invariant-loop-place
invariant-loop-place l = Each l._place (λ f. []) l.sets.items
