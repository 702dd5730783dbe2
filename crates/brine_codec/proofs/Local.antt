-- A fault is told by what stands at its place: those bytes alone have it at their beginning.
use Rattle.std.proofs.Common.{◌≡◌, ◌≢◌, ℕ, zero, suc, Bool, true, false, cond, ltb, List, [], ◌∷◌, ◌++◌, length, take, drop, Result, Ok, Err, refl, sym, ap, ◌∙◌, append_assoc, ℤ}
use Rattle.std.specs.Str.{is_utf8}
use Rattle.std.specs.Int.{w32, from_be_bytes}
use Rattle.std.proofs.lemmas.List.{take-append-drop}
use Rattle.rp_base.specs.declared.plain.Plain.{Plain}
use Rattle.rp_base.specs.declared.plain.Plain.TheVariants as plain
use Rattle.brine_codec.specs.declared.tag.Tag.{Tag}
use Rattle.brine_codec.specs.declared.tag.Tag.TheVariants as tags
use Rattle.brine_codec.specs.declared.tag.Size.{Size}
use Rattle.brine_codec.specs.declared.tag.Size.TheVariants as sizes
use Rattle.brine_codec.specs.declared.ends.BrineKind.{BrineKind}
use Rattle.brine_codec.specs.declared.ends.BrineKind.TheVariants as kinds
use Rattle.brine_codec.specs.Reading.{◌>>=◌, Read, Fault, tag_at, size_at, first_bytes, bytes_at, int_of_text, int_or_fault, int_at, text_by, text_at, items_at, value_by, value_in, tuple_within, value_at}

-- the bytes behind a front are what is left
abbrev pub IsEnd : List ℕ → List ℕ → Type 0
IsEnd whole rest = (front : List ℕ) × (whole ≡ front ++ rest)

-- what is behind a reading is an end, and a fault other than a cut and a depth is that of the end at its place
abbrev pub Told : {A : Type 0} → List ℕ → Read A → Type 0
Told whole (Ok x) = IsEnd whole x.1
Told whole (Err f) = f.1 ≢ kinds.B3 → f.1 ≢ kinds.B8 → (end : List ℕ) × (IsEnd whole end) × (length end ≡ f.0) × (value_at 100 end ≡ Err f)

tail_end : (whole : List ℕ) (b : ℕ) (rest : List ℕ) → IsEnd whole (b ∷ rest) → IsEnd whole rest
tail_end whole b rest e = (e.0 ++ b ∷ [], e.1 ∙ simp append_assoc)

later_end : (whole front rest : List ℕ) → IsEnd whole (front ++ rest) → IsEnd whole rest
later_end whole front rest e = (e.0 ++ front, e.1 ∙ simp append_assoc)

told_then : {A B : Type 0} (whole : List ℕ) (r : Read A) (f : A × List ℕ → Read B) → Told whole r → ((x : A) (rest : List ℕ) → r ≡ Ok (x, rest) → IsEnd whole rest → Told whole (f (x, rest))) → Told whole (r >>= f)
told_then whole (Ok x) f h next = next x.0 x.1 refl h
told_then whole (Err e) f h next = h

-- ---- readings whose faults stand at one tag, or are cuts

abbrev AtTag : {A : Type 0} → List ℕ → ℕ → Read A → Type 0
AtTag whole left (Ok x) = IsEnd whole x.1
AtTag whole left (Err f) = f.1 ≢ kinds.B3 → f.0 ≡ left

at_then : {A B : Type 0} (whole : List ℕ) (left : ℕ) (r : Read A) (f : A × List ℕ → Read B) → AtTag whole left r → ((x : A) (rest : List ℕ) → IsEnd whole rest → AtTag whole left (f (x, rest))) → AtTag whole left (r >>= f)
at_then whole left (Ok x) f h next = next x.0 x.1 h
at_then whole left (Err e) f h next = h

at_cond : {A : Type 0} (whole : List ℕ) (left : ℕ) (test : Bool) (r s : Read A) → AtTag whole left r → AtTag whole left s → AtTag whole left (cond test r s)
at_cond whole left true r s h k = h
at_cond whole left false r s h k = k

size_at_tag : (whole : List ℕ) (least : ℕ) (size : Size) (left : ℕ) (bytes : List ℕ) → IsEnd whole bytes → AtTag whole left (size_at least size left bytes)
unfolding size_at
size_at_tag whole least (sizes.Of k) left bytes e = e
size_at_tag whole least sizes.Byte left [] e = λ other. absurd (other refl)
size_at_tag whole least sizes.Byte left (k ∷ bytes) e = at_cond whole left (ltb k least) (Err (left, kinds.B4)) (Ok (k, bytes)) (λ other. refl) (tail_end whole k bytes e)
size_at_tag whole least sizes.FourBytes left [] e = λ other. absurd (other refl)
size_at_tag whole least sizes.FourBytes left (a ∷ []) e = λ other. absurd (other refl)
size_at_tag whole least sizes.FourBytes left (a ∷ b ∷ []) e = λ other. absurd (other refl)
size_at_tag whole least sizes.FourBytes left (a ∷ b ∷ c ∷ []) e = λ other. absurd (other refl)
size_at_tag whole least sizes.FourBytes left (a ∷ b ∷ c ∷ d ∷ bytes) e =
    let k = from_be_bytes w32 (a ∷ b ∷ c ∷ d ∷ []) in
    at_cond whole left (ltb k 256) (Err (left, kinds.B4)) (Ok (k, bytes)) (λ other. refl) (later_end whole (a ∷ b ∷ c ∷ d ∷ []) bytes e)

first_at_tag : (whole : List ℕ) (left k : ℕ) (bytes : List ℕ) → IsEnd whole bytes → AtTag whole left (first_bytes k bytes)
first_at_tag whole left k bytes e =
    let back : IsEnd whole (drop k bytes) = later_end whole (take k bytes) (drop k bytes) (e.0, e.1 ∙ ap (λ (x : List ℕ). e.0 ++ x) (sym (take-append-drop k bytes))) in
    at_cond whole left (ltb (length bytes) k) (Err (0, kinds.B3)) (Ok (take k bytes, drop k bytes)) (λ other. absurd (other refl)) back

bytes_at_tag : (whole : List ℕ) (least : ℕ) (size : Size) (left : ℕ) (bytes : List ℕ) → IsEnd whole bytes → AtTag whole left (bytes_at least size left bytes)
unfolding bytes_at
bytes_at_tag whole least size left bytes e = at_then whole left (size_at least size left bytes) (λ k. first_bytes k.0 k.1) (size_at_tag whole least size left bytes e) (λ k rest back. first_at_tag whole left k rest back)

int_or_at_tag : (whole : List ℕ) (left : ℕ) (rest : List ℕ) (r : Result ℤ BrineKind) → IsEnd whole rest → AtTag whole left (int_or_fault left rest r)
int_or_at_tag whole left rest (Ok z) e = e
int_or_at_tag whole left rest (Err what) e = λ other. refl

int_at_tag : (whole : List ℕ) (size : Size) (left : ℕ) (bytes : List ℕ) → IsEnd whole bytes → AtTag whole left (int_at size left bytes)
unfolding int_at
int_at_tag whole size left bytes e =
    at_then whole left (bytes_at 0 size left bytes) (λ text. int_or_fault left text.1 (int_of_text text.0)) (bytes_at_tag whole 0 size left bytes e) (λ text rest back. int_or_at_tag whole left rest (int_of_text text) back)

-- the end at the tag has the fault
told_at_tag : {A : Type 0} (whole end : List ℕ) (r : Read A) → IsEnd whole end → AtTag whole (length end) r → ((f : Fault) → r ≡ Err f → value_at 100 end ≡ Err f) → Told whole r
told_at_tag whole end (Ok x) e h same = h
told_at_tag whole end (Err f) e h same = λ other depth. (end, e, sym (h other), same f refl)

-- ---- values

abbrev ItemTold : List ℕ → (List ℕ → Read Plain) → Type 0
ItemTold whole item = (bytes : List ℕ) → IsEnd whole bytes → Told whole (item bytes)

items_told : (whole : List ℕ) (item : List ℕ → Read Plain) → ItemTold whole item → (count : ℕ) (bytes : List ℕ) → IsEnd whole bytes → Told whole (items_at item count bytes)
unfolding items_at
items_told whole item one zero bytes e = e
items_told whole item one (suc k) bytes e =
    told_then whole (item bytes) (λ first. items_at item k first.1 >>= λ others. Ok (first.0 ∷ others.0, others.1)) (one bytes e)
    (λ v rest is back. told_then whole (items_at item k rest) (λ others. Ok (v ∷ others.0, others.1)) (items_told whole item one k rest back) (λ others end are behind. behind))

-- a tuple behind its tag
abbrev TupleTold : List ℕ → (Size → ℕ → List ℕ → Read Plain) → Type 0
TupleTold whole tuple = (b : ℕ) (size : Size) (bytes : List ℕ) → tag_at b ≡ tags.Tuple size → IsEnd whole (b ∷ bytes) → Told whole (tuple size (length (b ∷ bytes)) bytes)

value_is : (b : ℕ) (bytes : List ℕ) (tag : Tag) → tag_at b ≡ tag → value_at 100 (b ∷ bytes) ≡ value_by (tuple_within 100) b tag (length (b ∷ bytes)) bytes
unfolding value_in
value_is b bytes tag is = ap (λ (x : Tag). value_by (tuple_within 100) b x (length (b ∷ bytes)) bytes) is

err_then : {A B : Type 0} (r : Read A) (f : A × List ℕ → Read B) (e : Fault) → r ≡ Err e → (r >>= f) ≡ Err e
err_then r f e is = ap (λ x. x >>= f) is

abbrev text_or : Bool → Plain × List ℕ → Fault → Read Plain
text_or test x f = cond test (Ok x) (Err f)

text_told : (whole : List ℕ) (b : ℕ) (bytes : List ℕ) → tag_at b ≡ tags.Text → IsEnd whole (b ∷ bytes) → Told whole (text_at (length (b ∷ bytes)) bytes)
unfolding text_at
text_told whole b [] is e = λ other. absurd (other refl)
text_told whole b (c ∷ rest) is e = by_tag (tag_at c) refl
  where
    told_here : (tag : Tag) → tag_at c ≡ tag → text_by tag (length (b ∷ c ∷ rest)) (length (c ∷ rest)) rest ≡ Err (length (b ∷ c ∷ rest), kinds.B7) → Told {A = Plain} whole (Err (length (b ∷ c ∷ rest), kinds.B7))
    told_here tag are h =
        λ other depth. (b ∷ c ∷ rest, e, refl, value_is b (c ∷ rest) tags.Text is ∙ ap (λ (x : Tag). text_by x (length (b ∷ c ∷ rest)) (length (c ∷ rest)) rest) are ∙ h)

    by_test : (size : Size) (t after : List ℕ) (test : Bool) → tag_at c ≡ tags.Bytes size → bytes_at 5 size (length (c ∷ rest)) rest ≡ Ok (t, after) → is_utf8 t ≡ test → IsEnd whole after
        → Told whole (cond test (Ok (plain.Text t, after)) (Err (length (b ∷ c ∷ rest), kinds.B7)))
    by_test size t after true are read test back = back
    by_test size t after false are read test back =
        told_here (tags.Bytes size) are
        (ap (λ r. r >>= λ text. cond (is_utf8 text.0) (Ok (plain.Text text.0, text.1)) (Err (length (b ∷ c ∷ rest), kinds.B7))) read
        ∙ ap (λ (x : Bool). text_or x (plain.Text t, after) (length (b ∷ c ∷ rest), kinds.B7)) test)

    by_tag : (tag : Tag) → tag_at c ≡ tag → Told whole (text_by tag (length (b ∷ c ∷ rest)) (length (c ∷ rest)) rest)
    by_tag (tags.Bytes size) are =
        told_then whole (bytes_at 5 size (length (c ∷ rest)) rest) (λ text. cond (is_utf8 text.0) (Ok (plain.Text text.0, text.1)) (Err (length (b ∷ c ∷ rest), kinds.B7)))
        (told_at_tag whole (c ∷ rest) (bytes_at 5 size (length (c ∷ rest)) rest) (tail_end whole b (c ∷ rest) e)
        (bytes_at_tag whole 5 size (length (c ∷ rest)) rest (tail_end whole c rest (tail_end whole b (c ∷ rest) e)))
        (λ f h. value_is c rest (tags.Bytes size) are ∙ err_then (bytes_at 5 size (length (c ∷ rest)) rest) (λ x. Ok (plain.Bytes x.0, x.1)) f h))
        (λ t after read back. by_test size t after (is_utf8 t) are read refl back)
    by_tag tags.None are = told_here tags.None are refl
    by_tag (tags.Bool x) are = told_here (tags.Bool x) are refl
    by_tag tags.NotImpl are = told_here tags.NotImpl are refl
    by_tag tags.Ellipsis are = told_here tags.Ellipsis are refl
    by_tag (tags.Int z) are = told_here (tags.Int z) are refl
    by_tag (tags.IntText size) are = told_here (tags.IntText size) are refl
    by_tag tags.Text are = told_here tags.Text are refl
    by_tag (tags.Tuple size) are = told_here (tags.Tuple size) are refl
    by_tag tags.LeftOut are = told_here tags.LeftOut are refl
    by_tag tags.Unknown are = told_here tags.Unknown are refl

by_told : (whole : List ℕ) (tuple : Size → ℕ → List ℕ → Read Plain) → TupleTold whole tuple → (b : ℕ) (tag : Tag) (bytes : List ℕ) → tag_at b ≡ tag → IsEnd whole (b ∷ bytes)
    → Told whole (value_by tuple b tag (length (b ∷ bytes)) bytes)
by_told whole tuple inner b tags.None bytes is e = tail_end whole b bytes e
by_told whole tuple inner b (tags.Bool x) bytes is e = tail_end whole b bytes e
by_told whole tuple inner b tags.NotImpl bytes is e = tail_end whole b bytes e
by_told whole tuple inner b tags.Ellipsis bytes is e = tail_end whole b bytes e
by_told whole tuple inner b (tags.Int z) bytes is e = tail_end whole b bytes e
by_told whole tuple inner b (tags.IntText size) bytes is e =
    told_at_tag whole (b ∷ bytes) (int_at size (length (b ∷ bytes)) bytes) e (int_at_tag whole size (length (b ∷ bytes)) bytes (tail_end whole b bytes e)) (λ f h. value_is b bytes (tags.IntText size) is ∙ h)
by_told whole tuple inner b tags.Text bytes is e = text_told whole b bytes is e
by_told whole tuple inner b (tags.Bytes size) bytes is e =
    told_at_tag whole (b ∷ bytes) (bytes_at 5 size (length (b ∷ bytes)) bytes >>= λ x. Ok (plain.Bytes x.0, x.1)) e
    (at_then whole (length (b ∷ bytes)) (bytes_at 5 size (length (b ∷ bytes)) bytes) (λ x. Ok (plain.Bytes x.0, x.1)) (bytes_at_tag whole 5 size (length (b ∷ bytes)) bytes (tail_end whole b bytes e)) (λ x rest back. back))
    (λ f h. value_is b bytes (tags.Bytes size) is ∙ h)
by_told whole tuple inner b (tags.Tuple size) bytes is e = inner b size bytes is e
by_told whole tuple inner b tags.LeftOut bytes is e = λ other depth. (b ∷ bytes, e, refl, value_is b bytes tags.LeftOut is)
by_told whole tuple inner b tags.Unknown bytes is e = λ other depth. (b ∷ bytes, e, refl, value_is b bytes tags.Unknown is)

in_told : (whole : List ℕ) (tuple : Size → ℕ → List ℕ → Read Plain) → TupleTold whole tuple → ItemTold whole (value_in tuple)
unfolding value_in
in_told whole tuple inner [] e = λ other. absurd (other refl)
in_told whole tuple inner (b ∷ bytes) e = by_told whole tuple inner b (tag_at b) bytes refl e

tuple_told : (whole : List ℕ) (levels : ℕ) → TupleTold whole (tuple_within levels)
unfolding tuple_within
tuple_told whole zero b size bytes is e = λ other depth. absurd (depth refl)
tuple_told whole (suc levels) b size bytes is e =
    told_then whole (size_at 5 size (length (b ∷ bytes)) bytes) (λ count. items_at (value_at levels) count.0 count.1 >>= λ items. Ok (plain.Tuple items.0, items.1))
    (told_at_tag whole (b ∷ bytes) (size_at 5 size (length (b ∷ bytes)) bytes) e (size_at_tag whole 5 size (length (b ∷ bytes)) bytes (tail_end whole b bytes e))
    (λ f h. value_is b bytes (tags.Tuple size) is ∙ err_then (size_at 5 size (length (b ∷ bytes)) bytes) (λ count. items_at (value_at 99) count.0 count.1 >>= λ items. Ok (plain.Tuple items.0, items.1)) f h))
    (λ count rest are back. told_then whole (items_at (value_at levels) count rest) (λ items. Ok (plain.Tuple items.0, items.1))
    (items_told whole (value_at levels) (in_told whole (tuple_within levels) (tuple_told whole levels)) count rest back) (λ items end have behind. behind))

pub value_told : (levels : ℕ) (bytes : List ℕ) → Told bytes (value_at levels bytes)
value_told levels bytes = in_told bytes (tuple_within levels) (tuple_told bytes levels) bytes ([], refl)
