-- A plain value among others.
use Rattle.std.specs.Prelude.{Bool, false, ◌||◌, List, [], ◌∷◌}
use Rattle.rp_base.specs.declared.plain.Plain.{Plain}
use Rattle.rp_base.specs.PlainValues.{equal_to}

-- whether a value equals one of these
abbrev pub is_among : Plain → List Plain → Bool
is_among x [] = false
is_among x (p ∷ ps) = equal_to x p || is_among x ps
