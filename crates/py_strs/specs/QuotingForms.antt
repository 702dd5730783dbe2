-- What the code keeps of one character's escape.
use Rattle.std.specs.Prelude.{ℕ, List, [], ◌∷◌, encode_utf8_all}
use Rattle.py_strs.specs.declared.quoting.Form.{Form}
use Rattle.py_strs.specs.declared.quoting.Form.TheVariants as form
use Rattle.py_strs.specs.Quoting.{backslash, code_escape, escaped, escaped_byte}

-- the characters that a form stands for
abbrev pub spelled : Form → List ℕ
spelled (form.Plain c) = c ∷ []
spelled (form.Short c) = backslash ∷ c ∷ []
spelled (form.Code n) = code_escape n

-- their UTF-8 bytes
abbrev pub piece : ℕ → ℕ → List ℕ
piece quote c = encode_utf8_all (escaped quote c)

abbrev pub byte_piece : ℕ → ℕ → List ℕ
byte_piece quote b = encode_utf8_all (escaped_byte quote b)
