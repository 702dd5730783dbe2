-- Texts in a row, and how long a text may be. Texts are lists of characters.
use Rattle.std.specs.Prelude.{ℕ, ◌+◌, List, [], ◌∷◌, ◌++◌, length, string_bytes, String}
use Rattle.std.specs.Str.{chars, encode_utf8_all}

-- the characters of a string
abbrev pub characters : {A : Type 0} → String A → List ℕ
characters s = chars (string_bytes s)

-- each part with the separator in front of it
abbrev pub followed : List ℕ → List (List ℕ) → List ℕ
followed sep [] = []
followed sep (p ∷ ps) = sep ++ (p ++ followed sep ps)

-- the parts in a row, with the separator between two of them
abbrev pub joined : List ℕ → List (List ℕ) → List ℕ
joined sep [] = []
joined sep (p ∷ ps) = p ++ followed sep ps

-- a text weighs one more than its bytes
abbrev pub text_weight : List ℕ → ℕ
text_weight cs = 1 + length (encode_utf8_all cs)
