-- Texts and byte strings, and what Python prints for them.
use Rattle.std.proofs.Common.{◌≡◌, [], ◌∷◌, codes, refl}
use Rattle.ucd_category.proofs.Computing.{ucd_category}
use Rattle.py_strs.specs.Quoting.{text_repr, bytes_repr, hex}
use Rattle.std.specs.Str.{chars}
use lib.Utf8.{encode}

-- it's
pub double_quotes : text_repr (codes "it's") ≡ codes "\"it's\""
unfolding ucd_category text_repr chars hex encode
double_quotes = refl

-- a backslash, a line feed, a tab and a null
pub short_escapes : text_repr (0x5C ∷ 0x0A ∷ 0x09 ∷ 0 ∷ []) ≡ codes "'\\\\\\n\\t\\x00'"
unfolding ucd_category text_repr chars hex encode
short_escapes = refl

-- a letter e with an acute accent stands, U+00AD and U+2028 do not
pub hidden_and_shown : text_repr (0xC3 ∷ 0xA9 ∷ 0x20 ∷ 0xC2 ∷ 0xAD ∷ 0xE2 ∷ 0x80 ∷ 0xA8 ∷ []) ≡ 0x27 ∷ 0xC3 ∷ 0xA9 ∷ codes " \\xad\\u2028'"
unfolding ucd_category text_repr chars hex encode
hidden_and_shown = refl

-- 0, 61, 27 and ff
pub bytes_in_double_quotes : bytes_repr (0 ∷ 0x61 ∷ 0x27 ∷ 0xFF ∷ []) ≡ codes "b\"\\x00a'\\xff\""
unfolding bytes_repr hex encode
bytes_in_double_quotes = refl
