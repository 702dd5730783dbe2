use Rattle.std.proofs.Common.{◌≡◌, drop, map}
use Rattle.py_scope.specs.Words.{has_ending}
use Rattle.py_scope.proofs.words.has_ending.Given as goal

abbrev pub invariant-loop-word : goal.invariant-loop-word
invariant-loop-word l = has_ending (map (λ w. w.now) l.words) l.name ≡ has_ending (map (λ w. w.now) (drop l.word-index l.words)) l.name
