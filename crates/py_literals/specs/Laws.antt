-- What literals stand for, by the items that they are made of.
use Rattle.std.specs.Prelude.{◌≡◌, ℕ, ◌/◌, ◌%◌, Bool, true, ◌&&◌, nat_lt, List, [], ◌∷◌, ◌++◌, map}
use Rattle.std.specs.Char.{digit_char}
use Rattle.py_lexer.specs.Items.{Item, Hex, Code, IsLiteral, opening, body}
use Rattle.py_literals.specs.Values.{all_stand_for}

-- the text is a literal whose items stand for this
abbrev pub StandsFor : Bool → List ℕ → List ℕ → Type 0
StandsFor is_bytes text value = (l : IsLiteral is_bytes text) × (value ≡ all_stand_for is_bytes l.items)

-- a byte by its two hex digits
abbrev pub hex_of : ℕ → Item
hex_of b = Hex (digit_char (b / 16)) (digit_char (b % 16))

-- a code below 2^16 by its four hex digits
abbrev pub code_of : ℕ → Item
code_of c = Code (digit_char (c / 4096)) (digit_char (c / 256 % 16)) (digit_char (c / 16 % 16)) (digit_char (c % 16))

-- b'..', each byte by an escape
abbrev pub escaped_bytes : List ℕ → List ℕ
escaped_bytes bytes = opening true 39 ++ body 39 (map hex_of bytes)

-- '..', each character by an escape
abbrev pub escaped_text : List ℕ → List ℕ
escaped_text characters = 39 ∷ body 39 (map code_of characters)

abbrev pub all_below : ℕ → List ℕ → Bool
all_below n [] = true
all_below n (x ∷ xs) = nat_lt x n && all_below n xs
