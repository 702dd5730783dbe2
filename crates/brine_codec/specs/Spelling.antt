-- The bytes of a plain value in brine: one spelling for each value.
use Rattle.std.specs.Prelude.{ℕ, ◌<◌, slice_index, ℤ, pos, negsuc, ◌+◌, ◌-◌, ◌^◌, ◌==◌, nat_lt, Bool, true, ◌&&◌, List, [], ◌∷◌, ◌++◌, length, if◌then◌else◌}
use Rattle.std.specs.Int.{w32, to_be_bytes}
use Rattle.std.specs.Fmt.{signed_decimal}
use Rattle.std.specs.List.{concat}
use Rattle.std.specs.Str.{is_utf8}
use Rattle.rp_base.specs.declared.plain.Plain.{Plain}
use Rattle.rp_base.specs.declared.plain.Plain.TheOpen.{Plain-F}
use Rattle.rp_base.specs.PlainValues.{gather}
use Rattle.py_ints.specs.IntTexts.{fits}

-- each number of the list is a byte
abbrev pub IsBytes : List ℕ → Type 0
IsBytes bytes = (i : ℕ) → slice_index bytes i < 256

-- an int from -48 to 159 is its tag
abbrev pub int_tag : ℤ → ℕ
int_tag (pos n) = n + 80
int_tag (negsuc n) = 79 - n

abbrev pub is_small_int : ℤ → Bool
is_small_int (pos n) = nat_lt n 160
is_small_int (negsuc n) = nat_lt n 48

-- any other int is its decimal text behind a length
abbrev pub int_spelling : ℤ → List ℕ
int_spelling z = if is_small_int z then int_tag z ∷ [] else 22 ∷ length (signed_decimal z) ∷ signed_decimal z

-- A length or a count: 0 has a tag of its own, 1 to 4 stand in a tag, up to 255 in a byte behind a tag, and more in four bytes.
abbrev pub size_spelling : ℕ → ℕ → ℕ → List ℕ
size_spelling empty base n =
    if n == 0 then empty ∷ []
    else if nat_lt n 5 then (base + n) ∷ []
    else if nat_lt n 256 then (base + 5) ∷ n ∷ []
    else (base + 6) ∷ to_be_bytes w32 n

abbrev pub length_spelling : ℕ → List ℕ
length_spelling = size_spelling 1 9

abbrev pub count_spelling : ℕ → List ℕ
count_spelling = size_spelling 2 15

abbrev pub bytes_spelling : List ℕ → List ℕ
bytes_spelling bytes = length_spelling (length bytes) ++ bytes

-- one level of a value, with each item's spelling in its place
abbrev pub spelling_step : Plain-F (List ℕ) → List ℕ
spelling_step Plain-F.None = 0 ∷ []
spelling_step (Plain-F.Bool b) = (if b then 3 else 4) ∷ []
spelling_step (Plain-F.Int z) = int_spelling z
spelling_step (Plain-F.Text text) = 8 ∷ bytes_spelling text
spelling_step (Plain-F.Bytes bytes) = bytes_spelling bytes
spelling_step Plain-F.NotImpl = 5 ∷ []
spelling_step Plain-F.Ellipsis = 6 ∷ []
spelling_step (Plain-F.Tuple items) = count_spelling (length items) ++ concat items

unfoldable pub spelling : Plain → List ℕ
spelling = gather (List ℕ) spelling_step

-- Which values have a spelling: lengths and counts that fit four bytes, ints of 128 bits, texts that are UTF-8.
abbrev pub all_true : List Bool → Bool
all_true [] = true
all_true (b ∷ bs) = b && all_true bs

abbrev pub is_size : ℕ → Bool
is_size n = nat_lt n (2 ^ 32)

abbrev pub spellable_step : Plain-F Bool → Bool
spellable_step (Plain-F.Int z) = fits z
spellable_step (Plain-F.Text text) = is_size (length text) && is_utf8 text
spellable_step (Plain-F.Bytes bytes) = is_size (length bytes)
spellable_step (Plain-F.Tuple items) = is_size (length items) && all_true items
spellable_step _ = true

unfoldable pub spellable : Plain → Bool
spellable = gather Bool spellable_step
