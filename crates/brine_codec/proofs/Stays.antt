-- What reading finds stays where bytes are added behind: a value, and each fault other than a cut.
use Rattle.std.proofs.Common.{◌≡◌, ℕ, zero, suc, ◌+◌, ◌≤◌, Bool, true, false, cond, ltb, List, [], ◌∷◌, ◌++◌, length, take, drop, Option, Some, None, Ok, Err, refl, sym, ap, subst, ◌∙◌, append_assoc, arith, ℤ}
use Rattle.std.specs.Str.{is_utf8}
use Rattle.std.specs.Int.{w32, from_be_bytes}
use Rattle.std.proofs.lemmas.Bool.{ltb-false}
use Rattle.std.proofs.lemmas.List.{take-append-drop, length-append, length-take}
use Rattle.rp_base.specs.declared.plain.Plain.{Plain}
use Rattle.rp_base.specs.declared.plain.Plain.TheVariants as plain
use Rattle.py_ints.specs.IntTexts.{int_value, is_shortest, fits}
use Rattle.brine_codec.specs.declared.tag.Tag.{Tag}
use Rattle.brine_codec.specs.declared.tag.Tag.TheVariants as tags
use Rattle.brine_codec.specs.declared.tag.Size.{Size}
use Rattle.brine_codec.specs.declared.tag.Size.TheVariants as sizes
use Rattle.brine_codec.specs.declared.ends.BrineKind.{BrineKind}
use Rattle.brine_codec.specs.declared.ends.BrineKind.TheVariants as kinds
use Rattle.brine_codec.specs.Spelling.{is_small_int}
use Rattle.brine_codec.specs.Reading.{◌>>=◌, Read, tag_at, size_at, first_bytes, bytes_at, int_of_value, int_of_text, int_or_fault, int_at, text_by, text_at, items_at, value_by, value_in, tuple_within, value_at}
use Rattle.brine_codec.proofs.Sizes.{first_again}

-- a cut has nothing left, and any other fault is the same in front of more
abbrev pub FaultStays : {A : Type 0} → List ℕ → ℕ → BrineKind → Read A → Type 0
FaultStays more left kinds.B3 after = left ≡ 0
FaultStays more left what after = after ≡ Err (left + length more, what)

abbrev pub Stays : {A : Type 0} → List ℕ → Read A → Read A → Type 0
Stays more (Ok x) after = after ≡ Ok (x.0, x.1 ++ more)
Stays more (Err f) after = FaultStays more f.0 f.1 after

fault_then : {A B : Type 0} (more : List ℕ) (left : ℕ) (what : BrineKind) (after : Read A) (g : A × List ℕ → Read B) → FaultStays more left what after → FaultStays more left what (after >>= g)
fault_then more left kinds.B3 after g h = h
fault_then more left kinds.B1 after g h = ap (λ r. r >>= g) h
fault_then more left (kinds.B2 tag) after g h = ap (λ r. r >>= g) h
fault_then more left kinds.B4 after g h = ap (λ r. r >>= g) h
fault_then more left kinds.B5 after g h = ap (λ r. r >>= g) h
fault_then more left kinds.B6 after g h = ap (λ r. r >>= g) h
fault_then more left kinds.B7 after g h = ap (λ r. r >>= g) h
fault_then more left kinds.B8 after g h = ap (λ r. r >>= g) h
fault_then more left kinds.B9 after g h = ap (λ r. r >>= g) h

stays_then : {A B : Type 0} (more : List ℕ) (r after : Read A) (f g : A × List ℕ → Read B) → Stays more r after → ((x : A) (rest : List ℕ) → Stays more (f (x, rest)) (g (x, rest ++ more)))
    → Stays more (r >>= f) (after >>= g)
stays_then more (Ok x) after f g h next = subst (λ y. Stays more (f x) (y >>= g)) (sym h) (next x.0 x.1)
stays_then more (Err e) after f g h next = fault_then more e.0 e.1 after g h

stays_cond : {A : Type 0} (more : List ℕ) (test : Bool) (r s after_r after_s : Read A) → Stays more r after_r → Stays more s after_s → Stays more (cond test r s) (cond test after_r after_s)
stays_cond more true r s after_r after_s h k = h
stays_cond more false r s after_r after_s h k = k

size_stays : (least : ℕ) (size : Size) (left : ℕ) (bytes more : List ℕ) → Stays more (size_at least size left bytes) (size_at least size (left + length more) (bytes ++ more))
unfolding size_at
size_stays least (sizes.Of n) left bytes more = refl
size_stays least sizes.Byte left [] more = refl
size_stays least sizes.Byte left (n ∷ bytes) more = stays_cond more (ltb n least) (Err (left, kinds.B4)) (Ok (n, bytes)) _ _ refl refl
size_stays least sizes.FourBytes left [] more = refl
size_stays least sizes.FourBytes left (a ∷ []) more = refl
size_stays least sizes.FourBytes left (a ∷ b ∷ []) more = refl
size_stays least sizes.FourBytes left (a ∷ b ∷ c ∷ []) more = refl
size_stays least sizes.FourBytes left (a ∷ b ∷ c ∷ d ∷ bytes) more =
    let n = from_be_bytes w32 (a ∷ b ∷ c ∷ d ∷ []) in
    stays_cond more (ltb n 256) (Err (left, kinds.B4)) (Ok (n, bytes)) _ _ refl refl

first_stays : (n : ℕ) (bytes more : List ℕ) → Stays more (first_bytes n bytes) (first_bytes n (bytes ++ more))
first_stays n bytes more = by_test (ltb (length bytes) n) refl
  where
    by_test : (test : Bool) → ltb (length bytes) n ≡ test → Stays more (cond test (Err (0, kinds.B3)) (Ok (take n bytes, drop n bytes))) (first_bytes n (bytes ++ more))
    by_test true e = refl
    by_test false e =
        let there : n ≤ length bytes = ltb-false (length bytes) n e in
        let size : n ≡ length (take n bytes) = omega (arith, length-take n bytes) in
        ap (λ (x : List ℕ). first_bytes n (x ++ more)) (sym (take-append-drop n bytes))
        ∙ ap (λ (x : List ℕ). first_bytes n x) (append_assoc (take n bytes) (drop n bytes) more)
        ∙ ap (λ (k : ℕ). first_bytes k (take n bytes ++ (drop n bytes ++ more))) size
        ∙ first_again (take n bytes) (drop n bytes ++ more)

bytes_stay : (least : ℕ) (size : Size) (left : ℕ) (bytes more : List ℕ) → Stays more (bytes_at least size left bytes) (bytes_at least size (left + length more) (bytes ++ more))
unfolding bytes_at
bytes_stay least size left bytes more =
    stays_then more (size_at least size left bytes) (size_at least size (left + length more) (bytes ++ more)) (λ n. first_bytes n.0 n.1) (λ n. first_bytes n.0 n.1)
    (size_stays least size left bytes more) (λ n rest. first_stays n rest more)

-- ---- ints and texts

by_range : (left : ℕ) (rest more : List ℕ) (z : ℤ) (fit small : Bool)
    → Stays more (int_or_fault left rest (cond fit (cond small (Err kinds.B4) (Ok z)) (Err kinds.B6))) (int_or_fault (left + length more) (rest ++ more) (cond fit (cond small (Err kinds.B4) (Ok z)) (Err kinds.B6)))
by_range left rest more z true true = refl
by_range left rest more z true false = refl
by_range left rest more z false small = refl

by_value : (left : ℕ) (rest more : List ℕ) (short : Bool) (value : Option ℤ)
    → Stays more (int_or_fault left rest (cond short (int_of_value value) (Err kinds.B5))) (int_or_fault (left + length more) (rest ++ more) (cond short (int_of_value value) (Err kinds.B5)))
by_value left rest more false value = refl
by_value left rest more true None = refl
by_value left rest more true (Some z) = by_range left rest more z (fits z) (is_small_int z)

int_stays : (size : Size) (left : ℕ) (bytes more : List ℕ) → Stays more (int_at size left bytes) (int_at size (left + length more) (bytes ++ more))
unfolding int_at int_of_text
int_stays size left bytes more =
    stays_then more (bytes_at 0 size left bytes) (bytes_at 0 size (left + length more) (bytes ++ more)) (λ text. int_or_fault left text.1 (int_of_text text.0)) (λ text. int_or_fault (left + length more) text.1 (int_of_text text.0))
    (bytes_stay 0 size left bytes more) (λ text rest. by_value left rest more (is_shortest text) (int_value text))

text_by_stays : (tag : Tag) (left inner : ℕ) (bytes more : List ℕ) → Stays more (text_by tag left inner bytes) (text_by tag (left + length more) (inner + length more) (bytes ++ more))
text_by_stays (tags.Bytes size) left inner bytes more =
    stays_then more (bytes_at 5 size inner bytes) (bytes_at 5 size (inner + length more) (bytes ++ more))
    (λ text. cond (is_utf8 text.0) (Ok (plain.Text text.0, text.1)) (Err (left, kinds.B7))) (λ text. cond (is_utf8 text.0) (Ok (plain.Text text.0, text.1)) (Err (left + length more, kinds.B7)))
    (bytes_stay 5 size inner bytes more) (λ text rest. stays_cond more (is_utf8 text) (Ok (plain.Text text, rest)) (Err (left, kinds.B7)) _ _ refl refl)
text_by_stays tags.None left inner bytes more = refl
text_by_stays (tags.Bool x) left inner bytes more = refl
text_by_stays tags.NotImpl left inner bytes more = refl
text_by_stays tags.Ellipsis left inner bytes more = refl
text_by_stays (tags.Int z) left inner bytes more = refl
text_by_stays (tags.IntText size) left inner bytes more = refl
text_by_stays tags.Text left inner bytes more = refl
text_by_stays (tags.Tuple size) left inner bytes more = refl
text_by_stays tags.LeftOut left inner bytes more = refl
text_by_stays tags.Unknown left inner bytes more = refl

longer : (b : ℕ) (bytes more : List ℕ) → length (b ∷ bytes) + length more ≡ length (b ∷ (bytes ++ more))
longer b bytes more = omega (arith, length-append bytes more)

text_stays : (left : ℕ) (bytes more : List ℕ) → Stays more (text_at left bytes) (text_at (left + length more) (bytes ++ more))
unfolding text_at
text_stays left [] more = refl
text_stays left (b ∷ bytes) more =
    subst (λ (k : ℕ). Stays more (text_by (tag_at b) left (length (b ∷ bytes)) bytes) (text_by (tag_at b) (left + length more) k (bytes ++ more))) (longer b bytes more)
    (text_by_stays (tag_at b) left (length (b ∷ bytes)) bytes more)

-- ---- values

abbrev ItemStays : (List ℕ → Read Plain) → Type 0
ItemStays item = (bytes more : List ℕ) → Stays more (item bytes) (item (bytes ++ more))

items_stay : (item : List ℕ → Read Plain) → ItemStays item → (count : ℕ) (bytes more : List ℕ) → Stays more (items_at item count bytes) (items_at item count (bytes ++ more))
unfolding items_at
items_stay item one zero bytes more = refl
items_stay item one (suc n) bytes more =
    stays_then more (item bytes) (item (bytes ++ more)) (λ first. items_at item n first.1 >>= λ others. Ok (first.0 ∷ others.0, others.1)) (λ first. items_at item n first.1 >>= λ others. Ok (first.0 ∷ others.0, others.1))
    (one bytes more)
    (λ v rest. stays_then more (items_at item n rest) (items_at item n (rest ++ more)) (λ others. Ok (v ∷ others.0, others.1)) (λ others. Ok (v ∷ others.0, others.1)) (items_stay item one n rest more) (λ others end. refl))

abbrev TupleStays : (Size → ℕ → List ℕ → Read Plain) → Type 0
TupleStays tuple = (size : Size) (left : ℕ) (bytes more : List ℕ) → Stays more (tuple size left bytes) (tuple size (left + length more) (bytes ++ more))

by_stays : (tuple : Size → ℕ → List ℕ → Read Plain) → TupleStays tuple → (b : ℕ) (tag : Tag) (left : ℕ) (bytes more : List ℕ) → Stays more (value_by tuple b tag left bytes) (value_by tuple b tag (left + length more) (bytes ++ more))
by_stays tuple inner b tags.None left bytes more = refl
by_stays tuple inner b (tags.Bool x) left bytes more = refl
by_stays tuple inner b tags.NotImpl left bytes more = refl
by_stays tuple inner b tags.Ellipsis left bytes more = refl
by_stays tuple inner b (tags.Int z) left bytes more = refl
by_stays tuple inner b (tags.IntText size) left bytes more = int_stays size left bytes more
by_stays tuple inner b tags.Text left bytes more = text_stays left bytes more
by_stays tuple inner b (tags.Bytes size) left bytes more =
    stays_then more (bytes_at 5 size left bytes) (bytes_at 5 size (left + length more) (bytes ++ more)) (λ x. Ok (plain.Bytes x.0, x.1)) (λ x. Ok (plain.Bytes x.0, x.1)) (bytes_stay 5 size left bytes more) (λ x rest. refl)
by_stays tuple inner b (tags.Tuple size) left bytes more = inner size left bytes more
by_stays tuple inner b tags.LeftOut left bytes more = refl
by_stays tuple inner b tags.Unknown left bytes more = refl

in_stays : (tuple : Size → ℕ → List ℕ → Read Plain) → TupleStays tuple → ItemStays (value_in tuple)
unfolding value_in
in_stays tuple inner [] more = refl
in_stays tuple inner (b ∷ bytes) more =
    subst (λ (k : ℕ). Stays more (value_by tuple b (tag_at b) (length (b ∷ bytes)) bytes) (value_by tuple b (tag_at b) k (bytes ++ more))) (longer b bytes more)
    (by_stays tuple inner b (tag_at b) (length (b ∷ bytes)) bytes more)

tuple_stays : (levels : ℕ) → TupleStays (tuple_within levels)
unfolding tuple_within
tuple_stays zero size left bytes more = refl
tuple_stays (suc n) size left bytes more =
    stays_then more (size_at 5 size left bytes) (size_at 5 size (left + length more) (bytes ++ more)) (λ count. items_at (value_at n) count.0 count.1 >>= λ items. Ok (plain.Tuple items.0, items.1))
    (λ count. items_at (value_at n) count.0 count.1 >>= λ items. Ok (plain.Tuple items.0, items.1)) (size_stays 5 size left bytes more)
    (λ count rest. stays_then more (items_at (value_at n) count rest) (items_at (value_at n) count (rest ++ more)) (λ items. Ok (plain.Tuple items.0, items.1)) (λ items. Ok (plain.Tuple items.0, items.1))
    (items_stay (value_at n) (in_stays (tuple_within n) (tuple_stays n)) count rest more) (λ items end. refl))

pub value_stays : (levels : ℕ) (bytes more : List ℕ) → Stays more (value_at levels bytes) (value_at levels (bytes ++ more))
value_stays levels bytes more = in_stays (tuple_within levels) (tuple_stays levels) bytes more
