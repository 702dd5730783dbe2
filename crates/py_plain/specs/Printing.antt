-- How Python prints a plain value: `repr` and `str`, as UTF-8 bytes.
use Rattle.std.specs.Prelude.{◌≡◌, ℕ, ◌+◌, ◌<◌, ◌≤◌, List, [], ◌∷◌, ◌++◌, length, codes, Result, Ok, Err, if◌then◌else◌}
use Rattle.std.specs.Bool.{⊤}
use Rattle.std.specs.Fmt.{signed_decimal}
use Rattle.rp_base.specs.declared.exceptions.Beyond.TheVariants as beyond
use Rattle.rp_base.specs.declared.plain.Plain.{Plain}
use Rattle.rp_base.specs.declared.plain.Plain.TheOpen.{Plain-F}
use Rattle.rp_base.specs.PlainValues.{look, gather}
use Rattle.py_strs.specs.Joining.{joined}
use Rattle.py_strs.specs.Quoting.{text_repr, bytes_repr}
use Rattle.py_plain.specs.declared.ends.PlainEnd.{PlainEnd}
use Rattle.py_plain.specs.declared.ends.PlainEnd.TheVariants as end

-- the items in round brackets, with `, ` between two of them; a single item is followed by a comma
abbrev pub tuple_repr : List (List ℕ) → List ℕ
tuple_repr (t ∷ []) = codes "(" ++ t ++ codes ",)"
tuple_repr ts = codes "(" ++ joined (codes ", ") ts ++ codes ")"

-- one level of a value, with each item's repr in its place
abbrev pub repr_step : Plain-F (List ℕ) → List ℕ
repr_step Plain-F.None = codes "None"
repr_step (Plain-F.Bool b) = if b then codes "True" else codes "False"
repr_step (Plain-F.Int n) = signed_decimal n
repr_step (Plain-F.Text text) = text_repr text
repr_step (Plain-F.Bytes bytes) = bytes_repr bytes
repr_step Plain-F.NotImpl = codes "NotImplemented"
repr_step Plain-F.Ellipsis = codes "Ellipsis"
repr_step (Plain-F.Tuple items) = tuple_repr items

-- the repr of a value
unfoldable pub repr_of : Plain → List ℕ
repr_of = gather (List ℕ) repr_step

-- a text is its own str, and the str of any other value is its repr
abbrev pub text_or : Plain-F Plain → List ℕ → List ℕ
text_or (Plain-F.Text text) repr = text
text_or _ repr = repr

unfoldable pub str_of : Plain → List ℕ
str_of p = text_or (look p) (repr_of p)

-- The bytes `old` became `new`: `Ok` and `text` appended where that makes at most `most` bytes, and `Beyond(Size)` exactly where it would make more; memory may run out in place of either. After an error nothing has changed.
abbrev pub PrintsWithin : ℕ → List ℕ → List ℕ → List ℕ → Result ⊤ PlainEnd → Type 0
PrintsWithin most text old new (Ok _) = (length old + length text ≤ most) × (new ≡ old ++ text)
PrintsWithin most text old new (Err (end.Beyond beyond.Size)) = (most < length old + length text) × (new ≡ old)
PrintsWithin most text old new (Err end.NoMemory) = new ≡ old
PrintsWithin most text old new _ = ⊥
