-- Texts of whole numbers: the number that a text spells, and the one text that a number is written as.
use Rattle.std.specs.Prelude.{ℕ, ◌+◌, ◌-◌, ◌*◌, ◌^◌, ℤ, pos, negsuc, neg_ℤ, Bool, false, ◌&&◌, not, ◌==◌, nat_lt, List, [], ◌∷◌, length, Option, Some, None, option_map, Result, Ok, Err, if◌then◌else◌}
use Rattle.std.specs.Str.{all_ascii_digits}
use Rattle.py_ints.specs.declared.reading.IntText.{IntText}
use Rattle.py_ints.specs.declared.reading.IntText.TheVariants as int_text

-- the number that decimal digits spell: each counts as often as its place says, and the last one counts units
abbrev pub natural : List ℕ → ℕ
natural [] = 0
natural (b ∷ bs) = (b - 48) * 10 ^ length bs + natural bs

-- the same where the text is one digit or more
abbrev pub natural_value : List ℕ → Option ℕ
natural_value [] = None
natural_value (b ∷ bs) = if all_ascii_digits (b ∷ bs) then Some (natural (b ∷ bs)) else None

abbrev pub below_zero : ℕ → ℤ
below_zero n = neg_ℤ (pos n)

-- the number that a text spells: a `-`, a `+` or no sign, and one digit or more
abbrev pub int_value : List ℕ → Option ℤ
int_value [] = None
int_value (b ∷ bs) = if b == 45 then option_map below_zero (natural_value bs) else (if b == 43 then option_map pos (natural_value bs) else option_map pos (natural_value (b ∷ bs)))

-- a signed number of 128 bits
abbrev pub fits : ℤ → Bool
fits (pos n) = nat_lt n (2 ^ 127)
fits (negsuc n) = nat_lt n (2 ^ 127)

-- the number where it fits
abbrev pub within : Option ℤ → Result ℤ IntText
within None = Err int_text.Shape
within (Some z) = if fits z then Ok z else Err int_text.Wide

-- digits with no 0 in front
abbrev pub is_positive_text : List ℕ → Bool
is_positive_text [] = false
is_positive_text (b ∷ bs) = not (b == 48) && all_ascii_digits (b ∷ bs)

-- the shortest text of a whole number: `0`, or digits with no 0 in front, or such digits behind a `-`
abbrev pub is_shortest : List ℕ → Bool
is_shortest [] = false
is_shortest (b ∷ []) = all_ascii_digits (b ∷ [])
is_shortest (b ∷ c ∷ bs) = if b == 45 then is_positive_text (c ∷ bs) else is_positive_text (b ∷ c ∷ bs)
