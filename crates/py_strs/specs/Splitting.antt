-- The pieces of a text. Texts are lists of characters.
use Rattle.std.specs.Prelude.{◌≡◌, ℕ, ◌<◌, Bool, true, List, [], ◌∷◌, ◌++◌, length, Some, None}
use Rattle.py_strs.specs.Searching.{IsLeastPlace}
use Rattle.py_strs.specs.Spaces.{is_space, all_spaces, no_spaces}

-- the pieces between separators: each ends at the least place at which the separator stands in what is left, and it
-- stands nowhere in the last
abbrev pub IsSplit : List ℕ → List ℕ → List (List ℕ) → Type 0
IsSplit sep text [] = ⊥
IsSplit sep text (p ∷ []) = (text ≡ p) × IsLeastPlace text sep None
IsSplit sep text (p ∷ q ∷ ps) = (rest : List ℕ) × (text ≡ p ++ (sep ++ rest)) × IsLeastPlace text sep (Some (length p)) × IsSplit sep rest (q ∷ ps)

-- the text is empty or begins with white space
abbrev pub is_spaced : List ℕ → Bool
is_spaced [] = true
is_spaced (c ∷ cs) = is_space c

-- the maximal runs without white space, in order: white space, a word, and then the rest, which is empty or begins with
-- white space
abbrev pub IsWords : List ℕ → List (List ℕ) → Type 0
IsWords text [] = all_spaces text ≡ true
IsWords text (word ∷ words) = (gap : List ℕ) × (rest : List ℕ) × (text ≡ gap ++ (word ++ rest)) × (all_spaces gap ≡ true)
    × (0 < length word) × (no_spaces word ≡ true) × (is_spaced rest ≡ true) × IsWords rest words
