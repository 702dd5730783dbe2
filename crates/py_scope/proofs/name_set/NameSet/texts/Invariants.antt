use Rattle.std.proofs.Common.{◌≡◌, take, map}
use Rattle.py_scope.proofs.name_set.NameSet.texts.Given as goal

abbrev pub invariant-loop-name : goal.invariant-loop-name
invariant-loop-name l = l.texts ≡ map (λ k. k.now) (take l.name-index l.name-items)
