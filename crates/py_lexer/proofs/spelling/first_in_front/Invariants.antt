use Rattle.std.proofs.Common.{◌≡◌, drop, map}
use Rattle.py_lexer.specs.Spellings.{first_in_front}
use Rattle.py_lexer.proofs.spelling.first_in_front.Given as goal

abbrev pub invariant-loop-word : goal.invariant-loop-word
invariant-loop-word l = first_in_front (map (λ w. w.now) l.words) l.rest ≡ first_in_front (map (λ w. w.now) (drop l.word-index l.words)) l.rest
