-- Functions on texts (Python Library Reference, "String Methods"). Texts are lists of characters, and a place counts the characters before it.
use Rattle.std.specs.Prelude.{ℕ, zero, suc, ◌+◌, ◌==◌, Bool, true, false, ◌&&◌, nat_lt, ℤ, pos, negsuc, ◌+ℤ◌, List, [], ◌∷◌, reverse, length, take, drop, Option, Some, None, option_map, if◌then◌else◌}
use Rattle.rp_base.specs.declared.plain.Plain.TheVariants as plain
use Rattle.rp_base.specs.declared.value.Value.{Value}
use Rattle.rp_base.specs.declared.value.Value.TheVariants as value
use Rattle.rp_base.specs.PlainValues as plains
use Rattle.py_strs.specs.Joining.{joined}
use Rattle.py_strs.specs.Spaces.{is_space}
use Rattle.py_strs.specs.Splitting.{is_spaced}

-- ---- searching

-- whether a text begins with a part, and whether it ends with it
abbrev pub begins_with : List ℕ → List ℕ → Bool
begins_with text [] = true
begins_with [] (p ∷ ps) = false
begins_with (c ∷ cs) (p ∷ ps) = (c == p) && begins_with cs ps

abbrev pub ends_in : List ℕ → List ℕ → Bool
ends_in text part = begins_with (reverse text) (reverse part)

-- the least place at which a part stands in a text: at 0 where the text begins with it, else one further than in the rest
abbrev pub least_place : List ℕ → List ℕ → Option ℕ
least_place [] part = if begins_with [] part then Some 0 else None
least_place (c ∷ cs) part = if begins_with (c ∷ cs) part then Some 0 else option_map suc (least_place cs part)

-- that place as `find` gives it: -1 where there is none
abbrev pub found_place : Option ℕ → ℤ
found_place (Some k) = pos k
found_place None = negsuc 0

abbrev pub find : List ℕ → List ℕ → ℤ
find text part = found_place (least_place text part)

-- ---- splitting

-- The pieces between separators: each ends at the least place at which the separator stands in what is left. The number n is that of the separators that are looked for.
abbrev pub pieces_within : ℕ → List ℕ → List ℕ → List (List ℕ)
pieces_within zero sep text = text ∷ []
pieces_within (suc n) sep text = elim (least_place text sep) [ Some k ↦ take k text ∷ pieces_within n sep (drop (k + length sep) text) | None ↦ text ∷ [] ]

-- The pieces of a text between separators that are not empty. The number only bounds the recursion: a text has at most one separator for each of its characters.
abbrev pub pieces : List ℕ → List ℕ → List (List ℕ)
pieces sep text = pieces_within (length text) sep text

-- a character in front of the first word
abbrev pub lengthened : ℕ → List (List ℕ) → List (List ℕ)
lengthened c [] = (c ∷ []) ∷ []
lengthened c (w ∷ ws) = (c ∷ w) ∷ ws

-- a character in front of a text with these words: white space adds nothing, and any other begins a new word where the text is empty or begins with white space
abbrev pub words_with : ℕ → List ℕ → List (List ℕ) → List (List ℕ)
words_with c cs ws = if is_space c then ws else (if is_spaced cs then (c ∷ []) ∷ ws else lengthened c ws)

-- the words of a text: its maximal runs without white space
abbrev pub words : List ℕ → List (List ℕ)
words [] = []
words (c ∷ cs) = words_with c cs (words cs)

-- ---- stripping and replacing

-- a text without the white space in front, and without that at both ends
abbrev pub without_front : List ℕ → List ℕ
without_front [] = []
without_front (c ∷ cs) = if is_space c then without_front cs else c ∷ cs

abbrev pub stripped : List ℕ → List ℕ
stripped text = reverse (without_front (reverse (without_front text)))

-- the text with `new` in the place of each `old`, which is not empty, found from the left
abbrev pub replaced : List ℕ → List ℕ → List ℕ → List ℕ
replaced text old new = joined new (pieces old text)

-- ---- positions

-- a position is an int, and a bool counts as one
abbrev pub as_int : Value → Option ℤ
as_int (value.Plain (plain.Bool b)) = Some (plains.as_int b)
as_int (value.Plain (plain.Int n)) = Some n
as_int _ = None

-- n, where it is below the length
abbrev pub below : ℕ → ℤ → Option ℕ
below len (pos n) = if nat_lt n len then Some n else None
below len (negsuc n) = None

-- the place of a position among so many items: 0 is the first, and a negative one counts from the end, -1 being the last
abbrev pub place_among : ℕ → ℤ → Option ℕ
place_among len (pos n) = below len (pos n)
place_among len (negsuc n) = below len (negsuc n +ℤ pos len)
