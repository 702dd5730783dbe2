-- Where a text stands in another. Texts are lists of characters, and a place counts the characters before it.
use Rattle.std.specs.Prelude.{◌≡◌, ◌<◌, ℕ, ℤ, pos, negsuc, ◌+ℤ◌, List, ◌++◌, length, Option, None, MatchOption, slice_get}

-- the text begins with the part; it ends with it
abbrev pub BeginsWith : List ℕ → List ℕ → Type 0
BeginsWith text part = (rest : List ℕ) × (text ≡ part ++ rest)

abbrev pub EndsIn : List ℕ → List ℕ → Type 0
EndsIn text part = (front : List ℕ) × (text ≡ front ++ part)

-- the part stands in the text behind its first k characters
abbrev pub StandsAt : List ℕ → List ℕ → ℕ → Type 0
StandsAt text part k = (front : List ℕ) × (rest : List ℕ) × (text ≡ front ++ (part ++ rest)) × (length front ≡ k)

-- the least place at which the part stands, and none where it stands nowhere
abbrev pub IsLeastPlace : List ℕ → List ℕ → Option ℕ → Type 0
IsLeastPlace text part place = MatchOption place ((k : ℕ) → ¬ (StandsAt text part k)) (λ k. StandsAt text part k × ((j : ℕ) → j < k → ¬ (StandsAt text part j)))

-- the character behind the first n; none behind -1 characters
abbrev pub character_behind : List ℕ → ℤ → Option ℕ
character_behind cs (pos n) = slice_get cs n
character_behind cs (negsuc n) = None

-- the character at a position: 0 is the first; a negative position counts from the end, and -1 is the last
abbrev pub character_at : List ℕ → ℤ → Option ℕ
character_at cs (pos n) = character_behind cs (pos n)
character_at cs (negsuc n) = character_behind cs (negsuc n +ℤ pos (length cs))
