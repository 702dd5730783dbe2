-- Reading a value at the front of bytes, from left to right: the value and the bytes after it, or the first fault.
use Rattle.std.specs.Prelude.{◌≡◌, ℕ, zero, suc, ℤ, pos, ◌-◌, ◌-ℤ◌, ◌==◌, nat_lt, true, false, ◌&&◌, List, [], ◌∷◌, length, take, drop, Option, Some, None, if◌then◌else◌}
use Rattle.std.specs.Prelude.{Result, Ok, Err}
use Rattle.std.specs.Int.{w32, from_be_bytes}
use Rattle.std.specs.Str.{is_utf8}
use Rattle.rp_base.specs.declared.plain.Plain.{Plain}
use Rattle.rp_base.specs.declared.plain.Plain.TheVariants as plain
use Rattle.py_ints.specs.IntTexts.{int_value, is_shortest, fits}
use Rattle.brine_codec.specs.declared.tag.Tag.{Tag}
use Rattle.brine_codec.specs.declared.tag.Tag.TheVariants as tags
use Rattle.brine_codec.specs.declared.tag.Size.{Size}
use Rattle.brine_codec.specs.declared.tag.Size.TheVariants as sizes
use Rattle.brine_codec.specs.declared.ends.BrineKind.{BrineKind}
use Rattle.brine_codec.specs.declared.ends.BrineKind.TheVariants as kinds
use Rattle.brine_codec.specs.declared.ends.BrineFault.{BrineFault}
use Rattle.brine_codec.specs.declared.ends.DecodeEnd.{DecodeEnd}
use Rattle.brine_codec.specs.declared.ends.DecodeEnd.TheVariants as ends
use Rattle.brine_codec.specs.declared.ends.Stop.{Stop}
use Rattle.brine_codec.specs.declared.ends.Stop.TheVariants as stop
use Rattle.brine_codec.specs.Spelling.{is_small_int}

-- a fault, and how many bytes are left where it stands
abbrev pub Fault : Type 0
Fault = ℕ × BrineKind

-- what was read and the bytes after it, or the first fault
abbrev pub Read : Type 0 → Type 0
Read A = Result (A × List ℕ) Fault

infixl 10 ◌>>=◌
abbrev pub ◌>>=◌ : {A B : Type 0} → Read A → (A × List ℕ → Read B) → Read B
(Ok x) >>= f = f x
(Err e) >>= f = Err e

-- the input ends here, and more is needed
abbrev pub cut : {A : Type 0} → Read A
cut = Err (0, kinds.B3)

-- what a tag says of the bytes after it
abbrev pub tag_at : ℕ → Tag
tag_at b =
    if b == 0 then tags.None
    else if b == 1 then tags.Bytes (sizes.Of 0)
    else if b == 2 then tags.Tuple (sizes.Of 0)
    else if b == 3 then tags.Bool true
    else if b == 4 then tags.Bool false
    else if b == 5 then tags.NotImpl
    else if b == 6 then tags.Ellipsis
    else if b == 8 then tags.Text
    else if nat_lt 9 b && nat_lt b 14 then tags.Bytes (sizes.Of (b - 9))
    else if b == 14 then tags.Bytes sizes.Byte
    else if b == 15 then tags.Bytes sizes.FourBytes
    else if nat_lt 15 b && nat_lt b 20 then tags.Tuple (sizes.Of (b - 15))
    else if b == 20 then tags.Tuple sizes.Byte
    else if b == 21 then tags.Tuple sizes.FourBytes
    else if b == 22 then tags.IntText sizes.Byte
    else if b == 23 then tags.IntText sizes.FourBytes
    else if nat_lt 23 b && nat_lt b 28 then tags.LeftOut
    else if nat_lt 31 b && nat_lt b 240 then tags.Int (pos b -ℤ pos 80)
    else tags.Unknown

-- The length or the count behind a tag. A field of one byte is least or more, one of four bytes 256 or more.
unfoldable pub size_at : ℕ → Size → ℕ → List ℕ → Read ℕ
size_at least (sizes.Of n) left rest = Ok (n, rest)
size_at least sizes.Byte left (n ∷ rest) = if nat_lt n least then Err (left, kinds.B4) else Ok (n, rest)
size_at least sizes.FourBytes left (a ∷ b ∷ c ∷ d ∷ rest) =
    if nat_lt (from_be_bytes w32 (a ∷ b ∷ c ∷ d ∷ [])) 256 then Err (left, kinds.B4) else Ok (from_be_bytes w32 (a ∷ b ∷ c ∷ d ∷ []), rest)
size_at least _ left rest = cut

-- the first n bytes
abbrev pub first_bytes : ℕ → List ℕ → Read (List ℕ)
first_bytes n rest = if nat_lt (length rest) n then cut else Ok (take n rest, drop n rest)

unfoldable pub bytes_at : ℕ → Size → ℕ → List ℕ → Read (List ℕ)
bytes_at least size left rest = size_at least size left rest >>= λ n. first_bytes n.0 n.1

-- the int of a decimal text that is no shorter spelling's
abbrev pub int_where_wide : ℤ → Result ℤ BrineKind
int_where_wide z = if fits z then (if is_small_int z then Err kinds.B4 else Ok z) else Err kinds.B6

abbrev pub int_of_value : Option ℤ → Result ℤ BrineKind
int_of_value None = Err kinds.B5
int_of_value (Some z) = int_where_wide z

unfoldable pub int_of_text : List ℕ → Result ℤ BrineKind
int_of_text text = if is_shortest text then int_of_value (int_value text) else Err kinds.B5

abbrev pub int_or_fault : ℕ → List ℕ → Result ℤ BrineKind → Read Plain
int_or_fault left rest (Ok z) = Ok (plain.Int z, rest)
int_or_fault left rest (Err what) = Err (left, what)

unfoldable pub int_at : Size → ℕ → List ℕ → Read Plain
int_at size left rest = bytes_at 0 size left rest >>= λ text. int_or_fault left text.1 (int_of_text text.0)

-- a text is a byte string that is UTF-8
abbrev pub text_by : Tag → ℕ → ℕ → List ℕ → Read Plain
text_by (tags.Bytes size) left inner rest = bytes_at 5 size inner rest >>= λ text. if is_utf8 text.0 then Ok (plain.Text text.0, text.1) else Err (left, kinds.B7)
text_by _ left inner rest = Err (left, kinds.B7)

unfoldable pub text_at : ℕ → List ℕ → Read Plain
text_at left [] = cut
text_at left (b ∷ rest) = text_by (tag_at b) left (length (b ∷ rest)) rest

-- so many values one after the other, each read by item
unfoldable pub items_at : (List ℕ → Read Plain) → ℕ → List ℕ → Read (List Plain)
items_at item zero bytes = Ok ([], bytes)
items_at item (suc n) bytes = item bytes >>= λ first. items_at item n first.1 >>= λ others. Ok (first.0 ∷ others.0, others.1)

-- the value behind the tag b, which has so many bytes left, with the reader of a tuple
abbrev pub value_by : (Size → ℕ → List ℕ → Read Plain) → ℕ → Tag → ℕ → List ℕ → Read Plain
value_by tuple b tags.None left rest = Ok (plain.None, rest)
value_by tuple b (tags.Bool x) left rest = Ok (plain.Bool x, rest)
value_by tuple b tags.NotImpl left rest = Ok (plain.NotImpl, rest)
value_by tuple b tags.Ellipsis left rest = Ok (plain.Ellipsis, rest)
value_by tuple b (tags.Int z) left rest = Ok (plain.Int z, rest)
value_by tuple b (tags.IntText size) left rest = int_at size left rest
value_by tuple b tags.Text left rest = text_at left rest
value_by tuple b (tags.Bytes size) left rest = bytes_at 5 size left rest >>= λ bytes. Ok (plain.Bytes bytes.0, bytes.1)
value_by tuple b (tags.Tuple size) left rest = tuple size left rest
value_by tuple b tags.LeftOut left rest = Err (left, kinds.B2 b)
value_by tuple b tags.Unknown left rest = Err (left, kinds.B1)

unfoldable pub value_in : (Size → ℕ → List ℕ → Read Plain) → List ℕ → Read Plain
value_in tuple [] = cut
value_in tuple (b ∷ rest) = value_by tuple b (tag_at b) (length (b ∷ rest)) rest

-- a tuple behind its tag, in which tuples stand in tuples at most so deep, itself counted
unfoldable pub tuple_within : ℕ → Size → ℕ → List ℕ → Read Plain
tuple_within zero size left rest = Err (left, kinds.B8)
tuple_within (suc levels) size left rest =
    size_at 5 size left rest >>= λ count. items_at (value_in (tuple_within levels)) count.0 count.1 >>= λ items. Ok (plain.Tuple items.0, items.1)

abbrev pub value_at : ℕ → List ℕ → Read Plain
value_at levels = value_in (tuple_within levels)

-- All of the bytes: a value, or the first fault with its place.
abbrev pub placed : ℕ → Fault → BrineFault
placed whole f = record { at = whole - f.0; what = f.1 }

abbrev pub whole_value : ℕ → Read Plain → Result Plain BrineFault
whole_value whole (Ok (v, [])) = Ok v
whole_value whole (Ok (v, b ∷ rest)) = Err (placed whole (length (b ∷ rest), kinds.B9))
whole_value whole (Err f) = Err (placed whole f)

abbrev pub decoded : List ℕ → Result Plain BrineFault
decoded bytes = whole_value (length bytes) (value_at 100 bytes)

-- ---- what the code's functions return

-- why reading stopped, with the place in so many bytes
abbrev pub ended : ℕ → Stop → DecodeEnd
ended whole (stop.Fault left what) = ends.Fault (placed whole (left, what))
ended whole stop.NoMemory = ends.NoMemory

-- what a function returned, seen by view, is what reading gives, unless memory ran out
abbrev pub Fails : {Y : Type 0} → Stop → Result Y Fault → Type 0
Fails (stop.Fault left what) read = read ≡ Err (left, what)
Fails stop.NoMemory read = Unit {0}

abbrev pub Gives : {X Y : Type 0} → (X → Y) → Result X Stop → Result Y Fault → Type 0
Gives view (Ok x) read = read ≡ Ok (view x)
Gives view (Err e) read = Fails e read

-- the answer is what all of the bytes give, unless memory ran out
abbrev pub Answers : Result Plain DecodeEnd → Result Plain BrineFault → Type 0
Answers (Ok v) whole = whole ≡ Ok v
Answers (Err (ends.Fault f)) whole = whole ≡ Err f
Answers (Err ends.NoMemory) whole = Unit {0}
