-- How Python prints a text and a byte string: `repr`.
use Rattle.std.specs.Prelude.{◌≡◌, ℕ, zero, suc, ◌+◌, ◌/◌, ◌%◌, ◌<◌, ◌≤◌, Bool, not, ◌&&◌, ◌||◌, ◌==◌, nat_lt, List, [], ◌∷◌, ◌++◌, length, Result, Ok, Err, if◌then◌else◌, encode_utf8_all, chars}
use Rattle.std.specs.Bool.{⊤}
use Rattle.std.specs.List.{flat_map, list_any}
use Rattle.std.specs.Char.{digit_char}
use Rattle.ucd_category.specs.GeneralCategory.{general_category}
use Rattle.ucd_category.specs.GeneralCategoryGroup.{in_group}
use Rattle.ucd_category.specs.declared.GeneralCategoryGroup.TheVariants as group
use Rattle.py_strs.specs.declared.ends.StrEnd.{StrEnd}
use Rattle.py_strs.specs.declared.ends.StrEnd.TheVariants as end

-- `'`, `"` and `\`
abbrev pub single_quote : ℕ
single_quote = 0x27

abbrev pub double_quote : ℕ
double_quote = 0x22

abbrev pub backslash : ℕ
backslash = 0x5C

-- single quotes, or double ones where `'` stands among the characters and `"` does not
abbrev pub quote_of : List ℕ → ℕ
quote_of cs = if list_any (λ c. c == single_quote) cs && not (list_any (λ c. c == double_quote) cs) then double_quote else single_quote

-- the last `places` hex digits of a number, in lower case
unfoldable pub hex : ℕ → ℕ → List ℕ
hex zero n = []
hex (suc places) n = hex places (n / 16) ++ digit_char (n % 16) ∷ []

-- `\xHH`, `\uHHHH` or `\UHHHHHHHH`, by the size of the code
abbrev pub code_escape : ℕ → List ℕ
code_escape c =
    if nat_lt c 0x100 then backslash ∷ 0x78 ∷ hex 2 c
    else if nat_lt c 0x1_0000 then backslash ∷ 0x75 ∷ hex 4 c
    else backslash ∷ 0x55 ∷ hex 8 c

-- one character between quotes: `\n`, `\r`, `\t`, a backslash before a backslash and before the quote, its code where it is hidden, else itself
abbrev pub escape : Bool → ℕ → ℕ → List ℕ
escape hidden quote c =
    if c == 0x0A then backslash ∷ 0x6E ∷ []
    else if c == 0x0D then backslash ∷ 0x72 ∷ []
    else if c == 0x09 then backslash ∷ 0x74 ∷ []
    else if c == backslash || c == quote then backslash ∷ c ∷ []
    else if hidden then code_escape c
    else c ∷ []

-- the general categories Other and Separator, but for the space
abbrev pub is_hidden : ℕ → Bool
is_hidden c = not (c == 0x20) && (in_group group.Other (general_category c) || in_group group.Separator (general_category c))

-- the bytes that are no printing ASCII
abbrev pub is_hidden_byte : ℕ → Bool
is_hidden_byte b = nat_lt b 0x20 || nat_lt 0x7E b

abbrev pub escaped : ℕ → ℕ → List ℕ
escaped quote c = escape (is_hidden c) quote c

abbrev pub escaped_byte : ℕ → ℕ → List ℕ
escaped_byte quote b = escape (is_hidden_byte b) quote b

-- the characters of the repr of a text with these characters
abbrev pub repr_of : List ℕ → List ℕ
repr_of cs = quote_of cs ∷ flat_map (escaped (quote_of cs)) cs ++ quote_of cs ∷ []

-- the characters of the repr of a byte string, with a `b` in front
abbrev pub repr_of_bytes : List ℕ → List ℕ
repr_of_bytes bs = 0x62 ∷ quote_of bs ∷ flat_map (escaped_byte (quote_of bs)) bs ++ quote_of bs ∷ []

-- the UTF-8 bytes of the repr, for a text that is given by its UTF-8 bytes
unfoldable pub text_repr : List ℕ → List ℕ
text_repr bs = encode_utf8_all (repr_of (chars bs))

unfoldable pub bytes_repr : List ℕ → List ℕ
bytes_repr bs = encode_utf8_all (repr_of_bytes bs)

-- the bytes `old` became `new`: `Ok` and `text` appended where that makes at most `most` bytes, `Size` exactly where it would make more; memory may run out in place of an `Ok`; after an error nothing has changed
abbrev pub AppendsWithin : ℕ → List ℕ → List ℕ → List ℕ → Result ⊤ StrEnd → Type 0
AppendsWithin most text old new (Ok _) = (length old + length text ≤ most) × (new ≡ old ++ text)
AppendsWithin most text old new (Err end.Size) = (most < length old + length text) × (new ≡ old)
AppendsWithin most text old new (Err end.NoMemory) = (length old + length text ≤ most) × (new ≡ old)
AppendsWithin most text old new (Err end.EmptySep) = ⊥
