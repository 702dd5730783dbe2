-- What numbers and texts are ordered by.
use Rattle.std.specs.Prelude.{ℕ, ℤ, pos, List, []}
use Rattle.rp_base.specs.PlainValues.{as_int}
use Rattle.rp_base.specs.declared.plain.Plain.{Plain}
use Rattle.rp_base.specs.declared.plain.Plain.TheVariants as plain

-- what a bool or an int counts as
abbrev pub number_of : Plain → ℤ
number_of (plain.Bool b) = as_int b
number_of (plain.Int z) = z
number_of _ = pos 0

-- the bytes of a text
abbrev pub bytes_of : Plain → List ℕ
bytes_of (plain.Text t) = t
bytes_of _ = []
