-- A fault stands inside the bytes, and one other than a cut has its own byte left.
use Rattle.std.proofs.Common.{◌≡◌, ◌≢◌, ℕ, zero, suc, ◌<◌, ◌≤◌, Bool, true, false, cond, ltb, List, [], ◌∷◌, length, take, drop, Option, Some, None, Result, Ok, Err, refl, arith, ℤ}
use Rattle.std.specs.Str.{is_utf8}
use Rattle.std.specs.Int.{w32, from_be_bytes}
use Rattle.std.proofs.lemmas.List.{length-drop}
use Rattle.rp_base.specs.declared.plain.Plain.{Plain}
use Rattle.rp_base.specs.declared.plain.Plain.TheVariants as plain
use Rattle.py_ints.specs.IntTexts.{int_value, is_shortest, fits}
use Rattle.brine_codec.specs.declared.tag.Tag.{Tag}
use Rattle.brine_codec.specs.declared.tag.Tag.TheVariants as tags
use Rattle.brine_codec.specs.declared.tag.Size.{Size}
use Rattle.brine_codec.specs.declared.tag.Size.TheVariants as sizes
use Rattle.brine_codec.specs.declared.ends.BrineKind.{BrineKind}
use Rattle.brine_codec.specs.declared.ends.BrineKind.TheVariants as kinds
use Rattle.brine_codec.specs.Spelling.{is_small_int}
use Rattle.brine_codec.specs.Reading.{◌>>=◌, Read, tag_at, size_at, first_bytes, bytes_at, int_of_value, int_of_text, int_or_fault, int_at, text_by, text_at, items_at, value_by, value_in, tuple_within, value_at}

-- with n bytes at the beginning
abbrev pub Placed : {A : Type 0} → ℕ → Read A → Type 0
Placed n (Ok x) = length x.1 ≤ n
Placed n (Err f) = (f.0 ≤ n) × (f.1 ≢ kinds.B3 → 0 < f.0) × (f.1 ≢ kinds.B9)

cut_placed : (A : Type 0) (n : ℕ) → Placed {A = A} n (Err (0, kinds.B3))
cut_placed A n = (omega arith, λ other. absurd (other refl), λ is. cc)

fault_placed : (A : Type 0) (n left : ℕ) (what : BrineKind) → what ≢ kinds.B9 → 0 < left → left ≤ n → Placed {A = A} n (Err (left, what))
fault_placed A n left what inner some within = (within, λ other. some, inner)

placed_then : {A B : Type 0} (n : ℕ) (r : Read A) (f : A × List ℕ → Read B) → Placed n r → ((x : A) (rest : List ℕ) → length rest ≤ n → Placed n (f (x, rest))) → Placed n (r >>= f)
placed_then n (Ok x) f h next = next x.0 x.1 h
placed_then n (Err e) f h next = h

placed_cond : {A : Type 0} (n : ℕ) (test : Bool) (r s : Read A) → Placed n r → Placed n s → Placed n (cond test r s)
placed_cond n true r s h k = h
placed_cond n false r s h k = k

size_placed : (n least : ℕ) (size : Size) (left : ℕ) (bytes : List ℕ) → 0 < left → left ≤ n → length bytes ≤ n → Placed n (size_at least size left bytes)
unfolding size_at
size_placed n least (sizes.Of k) left bytes some within few = few
size_placed n least sizes.Byte left [] some within few = cut_placed ℕ n
size_placed n least sizes.Byte left (k ∷ bytes) some within few = placed_cond n (ltb k least) (Err (left, kinds.B4)) (Ok (k, bytes)) (fault_placed ℕ n left kinds.B4 (λ is. cc) some within) (omega arith)
size_placed n least sizes.FourBytes left [] some within few = cut_placed ℕ n
size_placed n least sizes.FourBytes left (a ∷ []) some within few = cut_placed ℕ n
size_placed n least sizes.FourBytes left (a ∷ b ∷ []) some within few = cut_placed ℕ n
size_placed n least sizes.FourBytes left (a ∷ b ∷ c ∷ []) some within few = cut_placed ℕ n
size_placed n least sizes.FourBytes left (a ∷ b ∷ c ∷ d ∷ bytes) some within few =
    let k = from_be_bytes w32 (a ∷ b ∷ c ∷ d ∷ []) in
    placed_cond n (ltb k 256) (Err (left, kinds.B4)) (Ok (k, bytes)) (fault_placed ℕ n left kinds.B4 (λ is. cc) some within) (omega arith)

first_placed : (n k : ℕ) (bytes : List ℕ) → length bytes ≤ n → Placed n (first_bytes k bytes)
first_placed n k bytes few =
    placed_cond n (ltb (length bytes) k) (Err (0, kinds.B3)) (Ok (take k bytes, drop k bytes)) (cut_placed (List ℕ) n) (omega (arith, length-drop k bytes))

bytes_placed : (n least : ℕ) (size : Size) (left : ℕ) (bytes : List ℕ) → 0 < left → left ≤ n → length bytes ≤ n → Placed n (bytes_at least size left bytes)
unfolding bytes_at
bytes_placed n least size left bytes some within few =
    placed_then n (size_at least size left bytes) (λ k. first_bytes k.0 k.1) (size_placed n least size left bytes some within few) (λ k rest less. first_placed n k rest less)

abbrev not_int : BrineKind → Result ℤ BrineKind
not_int what = Err what

-- an int's text alone has no byte behind it
by_range : (z : ℤ) (what : BrineKind) (fit small : Bool) → cond fit (cond small (Err kinds.B4) (Ok z)) (Err kinds.B6) ≡ not_int what → what ≢ kinds.B9
by_range z what true true e is = cc
by_range z what true false e is = cc
by_range z what false small e is = cc

by_value : (what : BrineKind) (short : Bool) (value : Option ℤ) → cond short (int_of_value value) (Err kinds.B5) ≡ not_int what → what ≢ kinds.B9
by_value what false value e is = cc
by_value what true None e is = cc
by_value what true (Some z) e is = by_range z what (fits z) (is_small_int z) e is

text_alone : (text : List ℕ) (what : BrineKind) → int_of_text text ≡ Err what → what ≢ kinds.B9
unfolding int_of_text
text_alone text what e is = by_value what (is_shortest text) (int_value text) e is

int_or_placed : (n left : ℕ) (rest : List ℕ) (r : Result ℤ BrineKind) → ((what : BrineKind) → r ≡ Err what → what ≢ kinds.B9) → 0 < left → left ≤ n → length rest ≤ n → Placed n (int_or_fault left rest r)
int_or_placed n left rest (Ok z) alone some within few = few
int_or_placed n left rest (Err what) alone some within few = fault_placed Plain n left what (alone what refl) some within

int_placed : (n : ℕ) (size : Size) (left : ℕ) (bytes : List ℕ) → 0 < left → left ≤ n → length bytes ≤ n → Placed n (int_at size left bytes)
unfolding int_at
int_placed n size left bytes some within few =
    placed_then n (bytes_at 0 size left bytes) (λ text. int_or_fault left text.1 (int_of_text text.0)) (bytes_placed n 0 size left bytes some within few)
    (λ text rest less. int_or_placed n left rest (int_of_text text) (text_alone text) some within less)

text_by_placed : (n : ℕ) (tag : Tag) (left inner : ℕ) (bytes : List ℕ) → 0 < left → left ≤ n → 0 < inner → inner ≤ n → length bytes ≤ n → Placed n (text_by tag left inner bytes)
text_by_placed n (tags.Bytes size) left inner bytes some within some_in within_in few =
    placed_then n (bytes_at 5 size inner bytes) (λ text. cond (is_utf8 text.0) (Ok (plain.Text text.0, text.1)) (Err (left, kinds.B7))) (bytes_placed n 5 size inner bytes some_in within_in few)
    (λ text rest less. placed_cond n (is_utf8 text) (Ok (plain.Text text, rest)) (Err (left, kinds.B7)) less (fault_placed Plain n left kinds.B7 (λ is. cc) some within))
text_by_placed n tags.None left inner bytes some within some_in within_in few = fault_placed Plain n left kinds.B7 (λ is. cc) some within
text_by_placed n (tags.Bool x) left inner bytes some within some_in within_in few = fault_placed Plain n left kinds.B7 (λ is. cc) some within
text_by_placed n tags.NotImpl left inner bytes some within some_in within_in few = fault_placed Plain n left kinds.B7 (λ is. cc) some within
text_by_placed n tags.Ellipsis left inner bytes some within some_in within_in few = fault_placed Plain n left kinds.B7 (λ is. cc) some within
text_by_placed n (tags.Int z) left inner bytes some within some_in within_in few = fault_placed Plain n left kinds.B7 (λ is. cc) some within
text_by_placed n (tags.IntText size) left inner bytes some within some_in within_in few = fault_placed Plain n left kinds.B7 (λ is. cc) some within
text_by_placed n tags.Text left inner bytes some within some_in within_in few = fault_placed Plain n left kinds.B7 (λ is. cc) some within
text_by_placed n (tags.Tuple size) left inner bytes some within some_in within_in few = fault_placed Plain n left kinds.B7 (λ is. cc) some within
text_by_placed n tags.LeftOut left inner bytes some within some_in within_in few = fault_placed Plain n left kinds.B7 (λ is. cc) some within
text_by_placed n tags.Unknown left inner bytes some within some_in within_in few = fault_placed Plain n left kinds.B7 (λ is. cc) some within

text_placed : (n left : ℕ) (bytes : List ℕ) → 0 < left → left ≤ n → length bytes ≤ n → Placed n (text_at left bytes)
unfolding text_at
text_placed n left [] some within few = cut_placed Plain n
text_placed n left (b ∷ bytes) some within few = text_by_placed n (tag_at b) left (length (b ∷ bytes)) bytes some within (omega arith) few (omega arith)

-- ---- values

abbrev ItemPlaced : (List ℕ → Read Plain) → Type 0
ItemPlaced item = (n : ℕ) (bytes : List ℕ) → length bytes ≤ n → Placed n (item bytes)

items_placed : (item : List ℕ → Read Plain) → ItemPlaced item → (n count : ℕ) (bytes : List ℕ) → length bytes ≤ n → Placed n (items_at item count bytes)
unfolding items_at
items_placed item one n zero bytes few = few
items_placed item one n (suc k) bytes few =
    placed_then n (item bytes) (λ first. items_at item k first.1 >>= λ others. Ok (first.0 ∷ others.0, others.1)) (one n bytes few)
    (λ v rest less. placed_then n (items_at item k rest) (λ others. Ok (v ∷ others.0, others.1)) (items_placed item one n k rest less) (λ others end fewer. fewer))

abbrev TuplePlaced : (Size → ℕ → List ℕ → Read Plain) → Type 0
TuplePlaced tuple = (n : ℕ) (size : Size) (left : ℕ) (bytes : List ℕ) → 0 < left → left ≤ n → length bytes ≤ n → Placed n (tuple size left bytes)

by_placed : (tuple : Size → ℕ → List ℕ → Read Plain) → TuplePlaced tuple → (n b : ℕ) (tag : Tag) (left : ℕ) (bytes : List ℕ) → 0 < left → left ≤ n → length bytes ≤ n → Placed n (value_by tuple b tag left bytes)
by_placed tuple inner n b tags.None left bytes some within few = few
by_placed tuple inner n b (tags.Bool x) left bytes some within few = few
by_placed tuple inner n b tags.NotImpl left bytes some within few = few
by_placed tuple inner n b tags.Ellipsis left bytes some within few = few
by_placed tuple inner n b (tags.Int z) left bytes some within few = few
by_placed tuple inner n b (tags.IntText size) left bytes some within few = int_placed n size left bytes some within few
by_placed tuple inner n b tags.Text left bytes some within few = text_placed n left bytes some within few
by_placed tuple inner n b (tags.Bytes size) left bytes some within few =
    placed_then n (bytes_at 5 size left bytes) (λ x. Ok (plain.Bytes x.0, x.1)) (bytes_placed n 5 size left bytes some within few) (λ x rest less. less)
by_placed tuple inner n b (tags.Tuple size) left bytes some within few = inner n size left bytes some within few
by_placed tuple inner n b tags.LeftOut left bytes some within few = fault_placed Plain n left (kinds.B2 b) (λ is. cc) some within
by_placed tuple inner n b tags.Unknown left bytes some within few = fault_placed Plain n left kinds.B1 (λ is. cc) some within

in_placed : (tuple : Size → ℕ → List ℕ → Read Plain) → TuplePlaced tuple → ItemPlaced (value_in tuple)
unfolding value_in
in_placed tuple inner n [] few = cut_placed Plain n
in_placed tuple inner n (b ∷ bytes) few = by_placed tuple inner n b (tag_at b) (length (b ∷ bytes)) bytes (omega arith) few (omega arith)

tuple_placed : (levels : ℕ) → TuplePlaced (tuple_within levels)
unfolding tuple_within
tuple_placed zero n size left bytes some within few = fault_placed Plain n left kinds.B8 (λ is. cc) some within
tuple_placed (suc levels) n size left bytes some within few =
    placed_then n (size_at 5 size left bytes) (λ count. items_at (value_at levels) count.0 count.1 >>= λ items. Ok (plain.Tuple items.0, items.1)) (size_placed n 5 size left bytes some within few)
    (λ count rest less. placed_then n (items_at (value_at levels) count rest) (λ items. Ok (plain.Tuple items.0, items.1))
    (items_placed (value_at levels) (in_placed (tuple_within levels) (tuple_placed levels)) n count rest less) (λ items end fewer. fewer))

pub value_placed : (levels : ℕ) (bytes : List ℕ) → Placed (length bytes) (value_at levels bytes)
value_placed levels bytes = in_placed (tuple_within levels) (tuple_placed levels) (length bytes) bytes (omega arith)
