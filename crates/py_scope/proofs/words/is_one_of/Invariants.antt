use Rattle.std.proofs.Common.{◌≡◌, drop, map}
use Rattle.py_scope.specs.Words.{is_one_of}
use Rattle.py_scope.proofs.words.is_one_of.Given as goal

abbrev pub invariant-loop-word : goal.invariant-loop-word
invariant-loop-word l = is_one_of (map (λ w. w.now) l.words) l.name ≡ is_one_of (map (λ w. w.now) (drop l.word-index l.words)) l.name
