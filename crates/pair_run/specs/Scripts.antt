-- The scripts of this stage, as lines of text.
use Rattle.std.specs.Int.{is_in_range}
use Rattle.std.specs.Str.{bytes_eq}
use Rattle.std.specs.Prelude.{◌≡◌, Bool, true, false, ℕ, ℤ, pos, ◌&&◌, ◌+◌, ◌<◌, ◌≤◌, ◌^◌, ◌==◌, if◌then◌else◌, List, [], ◌∷◌, ◌++◌, All, length, take, drop, map, codes, Option, Some, None, Result, Ok, Err, ◌⊎◌, find, reverse, option_map, IsSome}
use Rattle.std.specs.Fmt.{signed_decimal}
use Rattle.py_ints.specs.IntTexts.{int_value, within}
use Rattle.py_ints.specs.declared.reading.IntText.{IntText}
use Rattle.pair_run.specs.declared.scripts.Binding.{Binding}

-- the same lines, the first with this byte in front
abbrev pub onto_first : ℕ → List (List ℕ) → List (List ℕ)
onto_first c [] = (c ∷ []) ∷ []
onto_first c (line ∷ lines) = (c ∷ line) ∷ lines

-- A line ends at a line feed; the last one may lack it. The empty text has no line.
abbrev pub lines_of : List ℕ → List (List ℕ)
lines_of [] = []
lines_of (c ∷ text) = if c == 10 then [] ∷ lines_of text else onto_first c (lines_of text)

abbrev pub IsLetter : ℕ → Type 0
IsLetter c = (97 ≤ c) × (c ≤ 122)

-- a line of A asks B for the number of a letter and prints it
abbrev pub question_line : ℕ → List ℕ
question_line letter = codes "print(conn.namespace[\"" ++ letter ∷ codes "\"])"

-- a number that is not negative and fits 128 bits
abbrev pub IsNumber : ℤ → Type 0
IsNumber z = (n : ℕ) × (z ≡ pos n) × (n < 2 ^ 127)

-- a line of B binds a letter to such a number, which has no zero in front
abbrev pub binding_line : Binding → List ℕ
binding_line b = b.letter ∷ codes " = " ++ signed_decimal b.number

abbrev pub IsBinding : Binding → Type 0
IsBinding b = IsLetter b.letter × IsNumber b.number

-- the text of A's script that asks for these letters in turn
pub record AsksFor (text : List ℕ) (letters : List ℕ) : Type 0 where
  pub spelled : lines_of text ≡ map question_line letters
  pub lower_case : All IsLetter letters

-- the text of B's script that binds these in turn
pub record Binds (text : List ℕ) (bindings : List Binding) : Type 0 where
  pub spelled : lines_of text ≡ map binding_line bindings
  pub in_range : All IsBinding bindings

-- the lines of A before this one ask for letters, and it doesn't
pub record IsFirstOtherQuestion (text : List ℕ) (line : ℕ) : Type 0 where
  pub before : List ℕ
  pub other : List ℕ
  pub after : List (List ℕ)
  pub lines : lines_of text ≡ map question_line before ++ other ∷ after
  pub lower_case : All IsLetter before
  pub place : line ≡ length before + 1
  pub refused : (letter : ℕ) → IsLetter letter → other ≡ question_line letter → ⊥

-- the lines of B before this one bind letters, and it doesn't
pub record IsFirstOtherBinding (text : List ℕ) (line : ℕ) : Type 0 where
  pub before : List Binding
  pub other : List ℕ
  pub after : List (List ℕ)
  pub lines : lines_of text ≡ map binding_line before ++ other ∷ after
  pub in_range : All IsBinding before
  pub place : line ≡ length before + 1
  pub refused : (b : Binding) → IsBinding b → other ≡ binding_line b → ⊥

-- the number that the last line of B with this letter gives
abbrev pub number_of : List Binding → ℕ → Option ℤ
number_of bindings letter = option_map (λ b. b.number) (find (λ b. b.letter == letter) (reverse bindings))

-- these bindings give each letter the same number as those
abbrev pub Agrees : List Binding → List Binding → Type 0
Agrees namespace bindings = (letter : ℕ) → number_of namespace letter ≡ number_of bindings letter

-- the letters before this line's are bound, and this one is not
pub record IsFirstUnbound (bindings : List Binding) (letters : List ℕ) (line : ℕ) : Type 0 where
  pub before : List ℕ
  pub letter : ℕ
  pub after : List ℕ
  pub asked : letters ≡ before ++ letter ∷ after
  pub bound : All (λ c. IsSome (number_of bindings c)) before
  pub place : line ≡ length before + 1
  pub unbound : number_of bindings letter ≡ None

-- The number that the digits spell without a leading zero.
abbrev pub read_or_none : Result ℤ IntText → Option ℤ
read_or_none (Ok z) = Some z
read_or_none (Err e) = None

abbrev pub is_end : List ℕ → Bool
is_end [] = true
is_end (c ∷ rest) = false

abbrev pub number_text : List ℕ → Option ℤ
number_text [] = None
number_text (c ∷ digits) =
    if (c == 48) && is_end digits then Some (pos 0)
    else if is_in_range 49 57 c then read_or_none (within (int_value (c ∷ digits)))
    else None

-- The letter that a line asks for, and what a line binds, as they are read.
abbrev pub quoted_letter : List ℕ → Option ℕ
quoted_letter [] = None
quoted_letter (c ∷ rest) = if is_in_range 97 122 c && bytes_eq rest (codes "\"])") then Some c else None

abbrev pub read_letter : List ℕ → Option ℕ
read_letter line = if bytes_eq (take 22 line) (codes "print(conn.namespace[\"") then quoted_letter (drop 22 line) else None

abbrev pub bound : ℕ → Option ℤ → Option Binding
bound letter None = None
bound letter (Some n) = Some (record { letter = letter; number = n })

abbrev pub read_binding : List ℕ → Option Binding
read_binding (a ∷ b ∷ c ∷ d ∷ digits) = if is_in_range 97 122 a && bytes_eq (b ∷ c ∷ d ∷ []) (codes " = ") then bound a (number_text digits) else None
read_binding _ = None
