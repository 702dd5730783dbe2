use Rattle.std.proofs.Common.{◌≡◌, ℕ, take, nat_eq}
use Rattle.indexmap.specs.IndexSet.{contains}
use Rattle.py_scope.specs.Finished.{has_inner}
use Rattle.py_scope.proofs.finishing.parents.Given as goal

abbrev pub invariant-loop-info : goal.invariant-loop-info
invariant-loop-info l = (f : ℕ) → contains nat_eq l.found f ≡ has_inner (take l.info-index l.functions) f
