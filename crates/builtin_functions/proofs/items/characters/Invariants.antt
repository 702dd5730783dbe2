use Rattle.std.proofs.Common.{◌≡◌, ◌∷◌, [], map}
use Rattle.std.specs.Prelude.{encode_utf8_all}
use Rattle.language_rules.specs.Going.{text}
use Rattle.builtin_functions.proofs.items.characters.Given as goal

abbrev pub invariant-loop-c : goal.invariant-loop-c
invariant-loop-c l = l.items ≡ map (λ c. text (encode_utf8_all (c ∷ []))) l.yielded
