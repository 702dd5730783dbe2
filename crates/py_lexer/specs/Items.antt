-- What a literal is made of: items between two quotes.
use Rattle.std.specs.Prelude.{◌≡◌, ℕ, Bool, true, ◌==◌, ◌&&◌, ◌||◌, not, nat_lt, List, [], ◌∷◌, ◌++◌, codes, if◌then◌else◌}
use Rattle.std.specs.List.{flat_map}
use Rattle.py_lexer.specs.Spellings.{is_of, is_quote}
use Rattle.py_lexer.specs.Literals.{is_hex, is_code}

-- a byte that stands for itself, an escape by a letter or a sign, `\x` and two hex digits, `\u` and four
pub data Item : Type 0 where
  Byte : ℕ → Item
  Mark : ℕ → Item
  Hex : ℕ → ℕ → Item
  Code : ℕ → ℕ → ℕ → ℕ → Item

abbrev pub spelled : Item → List ℕ
spelled (Byte c) = c ∷ []
spelled (Mark c) = 92 ∷ c ∷ []
spelled (Hex a b) = 92 ∷ 120 ∷ a ∷ b ∷ []
spelled (Code a b c d) = 92 ∷ 117 ∷ a ∷ b ∷ c ∷ d ∷ []

-- no line feed and no backslash, and in bytes ASCII
abbrev pub is_plain : Bool → ℕ → Bool
is_plain is_bytes c = not (c == 10) && not (c == 92) && (nat_lt c 128 || not is_bytes)

abbrev pub is_mark : ℕ → Bool
is_mark = is_of (codes "ntr\\'\"")

-- the item may stand between these quotes
abbrev pub may_stand : Bool → ℕ → Item → Bool
may_stand is_bytes quote (Byte c) = not (c == quote) && is_plain is_bytes c
may_stand is_bytes quote (Mark c) = is_mark c
may_stand is_bytes quote (Hex a b) = is_hex a && is_hex b
may_stand is_bytes quote (Code a b c d) = not is_bytes && is_code a b c d

abbrev pub all_may_stand : Bool → ℕ → List Item → Bool
all_may_stand is_bytes quote [] = true
all_may_stand is_bytes quote (i ∷ is) = may_stand is_bytes quote i && all_may_stand is_bytes quote is

-- the items and the closing quote
abbrev pub body : ℕ → List Item → List ℕ
body quote items = flat_map spelled items ++ quote ∷ []

-- bytes have a `b` in front
abbrev pub opening : Bool → ℕ → List ℕ
opening is_bytes quote = if is_bytes then 98 ∷ quote ∷ [] else quote ∷ []

-- the text is a whole literal
pub record IsLiteral (is_bytes : Bool) (text : List ℕ) : Type 0 where
  pub quote : ℕ
  pub items : List Item
  pub quoted : is_quote quote ≡ true
  pub stand : all_may_stand is_bytes quote items ≡ true
  pub whole : text ≡ opening is_bytes quote ++ body quote items
