-- Lengths and counts, and byte strings: what is read was spelled, and what was spelled is read.
use Rattle.std.proofs.Common.{◌≡◌, ℕ, zero, suc, ◌+◌, ◌<◌, ◌≤◌, ◌^◌, Bool, true, false, cond, ltb, List, [], ◌∷◌, ◌++◌, length, get_or, take, drop, Result, Ok, Err, refl, sym, ap, subst, ◌∙◌, append_assoc, arith, inl, inr}
use Rattle.std.specs.Int.{w32, to_be_bytes, from_be_bytes}
use Rattle.std.proofs.lemmas.Bool.{ltb-false, lt-ltb, le-ltb, cases_lt, ne_eqb}
use Rattle.std.proofs.lemmas.List.{take_at, drop_at, take-append-drop, length-append, length-take}
use Rattle.std.proofs.lemmas.Nat.{be_bytes_4, from_be_bytes-to_be_bytes_4}
use Rattle.brine_codec.specs.declared.tag.Tag.{Tag}
use Rattle.brine_codec.specs.declared.tag.Tag.TheVariants as tags
use Rattle.brine_codec.specs.declared.tag.Size.{Size}
use Rattle.brine_codec.specs.declared.tag.Size.TheVariants as sizes
use Rattle.brine_codec.specs.declared.ends.BrineKind.TheVariants as kinds
use Rattle.brine_codec.specs.Spelling.{IsBytes, size_spelling, length_spelling, bytes_spelling}
use Rattle.brine_codec.specs.Reading.{◌>>=◌, Read, Fault, tag_at, size_at, first_bytes, bytes_at}
use Rattle.brine_codec.proofs.Tags.{IsSize, bytes_again, tuple_again}

abbrev pub done : {A : Type 0} → A → Result A Fault
done x = Ok x

pub ok_is : {A : Type 0} (x y : A) → done x ≡ done y → x ≡ y
ok_is x y e = cc

pub bind_ok : {A B : Type 0} (r : Read A) (f : A × List ℕ → Read B) (y : B × List ℕ) → (r >>= f) ≡ Ok y → (x : A × List ℕ) × (r ≡ Ok x) × (f x ≡ Ok y)
bind_ok (Ok x) f y e = (x, refl, e)
bind_ok (Err x) f y e = absurd cc

pub kept : {A : Type 0} (test : Bool) (x y : A) (f : Fault) → cond test (Ok x) (Err f) ≡ done y → (test ≡ true) × (x ≡ y)
kept true x y f e = (refl, cc)
kept false x y f e = absurd cc

pub passed : {A : Type 0} (test : Bool) (x y : A) (f : Fault) → cond test (Err f) (Ok x) ≡ done y → (test ≡ false) × (x ≡ y)
passed true x y f e = absurd cc
passed false x y f e = (refl, cc)

pub bytes_behind : (a b : List ℕ) → IsBytes (a ++ b) → IsBytes b
bytes_behind [] b h = h
bytes_behind (x ∷ a) b h = bytes_behind a b (λ i. h (suc i))

-- ---- sizes

size_zero : (empty base : ℕ) → size_spelling empty base 0 ≡ empty ∷ []
size_zero empty base = refl

size_few : (empty base n : ℕ) → 0 < n → n < 5 → size_spelling empty base n ≡ (base + n) ∷ []
size_few empty base n low high = rw (ne_eqb n 0 (λ e. omega arith), lt-ltb n 5 high) refl

size_byte : (empty base n : ℕ) → 5 ≤ n → n < 256 → size_spelling empty base n ≡ (base + 5) ∷ n ∷ []
size_byte empty base n low high = rw (ne_eqb n 0 (λ e. omega arith), le-ltb n 5 low, lt-ltb n 256 high) refl

size_four : (empty base n : ℕ) → 256 ≤ n → size_spelling empty base n ≡ (base + 6) ∷ to_be_bytes w32 n
size_four empty base n low = rw (ne_eqb n 0 (λ e. omega arith), le-ltb n 5 (omega arith), le-ltb n 256 low) refl

four_fit : (a b c d : ℕ) → a < 256 → b < 256 → c < 256 → d < 256 → (i : ℕ) → get_or (a ∷ b ∷ c ∷ d ∷ []) i 0 < 256
four_fit a b c d p q r s zero = p
four_fit a b c d p q r s (suc zero) = q
four_fit a b c d p q r s (suc (suc zero)) = r
four_fit a b c d p q r s (suc (suc (suc zero))) = s
four_fit a b c d p q r s (suc (suc (suc (suc i)))) = omega arith

four_low : (a b c d : ℕ) → a < 256 → b < 256 → c < 256 → d < 256 → from_be_bytes w32 (a ∷ b ∷ c ∷ d ∷ []) < 2 ^ 32
four_low a b c d p q r s = omega arith

pub record SizeFound (empty base : ℕ) (bytes : List ℕ) (n : ℕ) (rest : List ℕ) : Type 0 where
  pub parts : bytes ≡ size_spelling empty base n ++ rest
  pub high : n < 2 ^ 32

pub size_takes : (empty base b : ℕ) (size : Size) (left : ℕ) (bytes : List ℕ) (n : ℕ) (rest : List ℕ) → IsSize empty base b size → IsBytes bytes → size_at 5 size left bytes ≡ Ok (n, rest)
    → SizeFound empty base (b ∷ bytes) n rest
unfolding size_at
size_takes empty base b (sizes.Of zero) left bytes n rest m fits e =
    subst (λ (x : ℕ × List ℕ). SizeFound empty base (b ∷ bytes) x.0 x.1) (ok_is (0, bytes) (n, rest) e) (record { parts = ap (λ (x : ℕ). x ∷ bytes) m; high = omega arith })
size_takes empty base b (sizes.Of (suc k)) left bytes n rest m fits e =
    let few : suc k < 5 = m.1 in
    let parts : b ∷ bytes ≡ size_spelling empty base (suc k) ++ bytes = ap (λ (x : ℕ). x ∷ bytes) m.0 ∙ sym (ap (λ (x : List ℕ). x ++ bytes) (size_few empty base (suc k) (omega arith) few)) in
    subst (λ (x : ℕ × List ℕ). SizeFound empty base (b ∷ bytes) x.0 x.1) (ok_is (suc k, bytes) (n, rest) e) (record { parts = parts; high = omega arith })
size_takes empty base b sizes.Byte left [] n rest m fits e = absurd cc
size_takes empty base b sizes.Byte left (k ∷ bytes) n rest m fits e =
    let g = passed (ltb k 5) (k, bytes) (n, rest) _ e in
    let low : 5 ≤ k = ltb-false k 5 g.0 in
    let high : k < 256 = fits 0 in
    let parts : b ∷ k ∷ bytes ≡ size_spelling empty base k ++ bytes = ap (λ (x : ℕ). x ∷ k ∷ bytes) m ∙ sym (ap (λ (x : List ℕ). x ++ bytes) (size_byte empty base k low high)) in
    subst (λ (x : ℕ × List ℕ). SizeFound empty base (b ∷ k ∷ bytes) x.0 x.1) g.1 (record { parts = parts; high = omega arith })
size_takes empty base b sizes.FourBytes left (p ∷ q ∷ r ∷ s ∷ bytes) n rest m fits e =
    let k = from_be_bytes w32 (p ∷ q ∷ r ∷ s ∷ []) in
    let g = passed (ltb k 256) (k, bytes) (n, rest) _ e in
    let low : 256 ≤ k = ltb-false k 256 g.0 in
    let field : to_be_bytes w32 k ≡ p ∷ q ∷ r ∷ s ∷ [] = be_bytes_4 (p ∷ q ∷ r ∷ s ∷ []) k refl (four_fit p q r s (fits 0) (fits 1) (fits 2) (fits 3)) refl in
    let parts : b ∷ p ∷ q ∷ r ∷ s ∷ bytes ≡ size_spelling empty base k ++ bytes =
    ap (λ (x : ℕ). x ∷ p ∷ q ∷ r ∷ s ∷ bytes) m ∙ sym (ap (λ (x : List ℕ). (base + 6) ∷ (x ++ bytes)) field) ∙ sym (ap (λ (x : List ℕ). x ++ bytes) (size_four empty base k low)) in
    subst (λ (x : ℕ × List ℕ). SizeFound empty base (b ∷ p ∷ q ∷ r ∷ s ∷ bytes) x.0 x.1) g.1 (record { parts = parts; high = four_low p q r s (fits 0) (fits 1) (fits 2) (fits 3) })
size_takes empty base b sizes.FourBytes left [] n rest m fits e = absurd cc
size_takes empty base b sizes.FourBytes left (p ∷ []) n rest m fits e = absurd cc
size_takes empty base b sizes.FourBytes left (p ∷ q ∷ []) n rest m fits e = absurd cc
size_takes empty base b sizes.FourBytes left (p ∷ q ∷ r ∷ []) n rest m fits e = absurd cc

-- the spelling of a size is a tag with a field behind it, and both are read again
pub record SizeAgain (kind : Size → Tag) (empty base n : ℕ) : Type 0 where
  pub tag : ℕ
  pub size : Size
  pub field : List ℕ
  pub parts : size_spelling empty base n ≡ tag ∷ field
  pub means : tag_at tag ≡ kind size
  pub again : (left : ℕ) (rest : List ℕ) → size_at 5 size left (field ++ rest) ≡ Ok (n, rest)

byte_again : (n left : ℕ) (rest : List ℕ) → 5 ≤ n → size_at 5 sizes.Byte left (n ∷ rest) ≡ Ok (n, rest)
unfolding size_at
byte_again n left rest low = rw (le-ltb n 5 low) refl

four_again : (n left : ℕ) (rest : List ℕ) → 256 ≤ n → n < 2 ^ 32 → size_at 5 sizes.FourBytes left (to_be_bytes w32 n ++ rest) ≡ Ok (n, rest)
unfolding size_at
four_again n left rest low high = rw (from_be_bytes-to_be_bytes_4 n high, le-ltb n 256 low) refl

of_again : (n left : ℕ) (rest : List ℕ) → size_at 5 (sizes.Of n) left rest ≡ Ok (n, rest)
unfolding size_at
of_again n left rest = refl

few_again : (kind : Size → Tag) (empty base n : ℕ) → tag_at empty ≡ kind (sizes.Of 0) → ((k : ℕ) → 0 < k → k < 5 → tag_at (base + k) ≡ kind (sizes.Of k)) → n < 5 → SizeAgain kind empty base n
few_again kind empty base zero none some few = record { tag = empty; size = sizes.Of 0; field = []; parts = refl; means = none; again = of_again 0 }
few_again kind empty base (suc n) none some few =
    record { tag = base + suc n; size = sizes.Of (suc n); field = []; parts = size_few empty base (suc n) (omega arith) few; means = some (suc n) (omega arith) few; again = of_again (suc n) }

size_again : (kind : Size → Tag) (empty base n : ℕ) → tag_at empty ≡ kind (sizes.Of 0) → ((k : ℕ) → 0 < k → k < 5 → tag_at (base + k) ≡ kind (sizes.Of k))
    → tag_at (base + 5) ≡ kind sizes.Byte → tag_at (base + 6) ≡ kind sizes.FourBytes → n < 2 ^ 32 → SizeAgain kind empty base n
size_again kind empty base n none some byte four high =
    elim (cases_lt n 5) [
      | inl few ↦ few_again kind empty base n none some few
      | inr many ↦ elim (cases_lt n 256) [
        | inl less ↦ record { tag = base + 5; size = sizes.Byte; field = n ∷ []; parts = size_byte empty base n many less; means = byte; again = λ left rest. byte_again n left rest many }
        | inr more ↦ record { tag = base + 6; size = sizes.FourBytes; field = to_be_bytes w32 n; parts = size_four empty base n more; means = four; again = λ left rest. four_again n left rest more high }
      ]
    ]

pub length_again : (n : ℕ) → n < 2 ^ 32 → SizeAgain (λ size. tags.Bytes size) 1 9 n
length_again n high = size_again (λ size. tags.Bytes size) 1 9 n refl bytes_again refl refl high

pub count_again : (n : ℕ) → n < 2 ^ 32 → SizeAgain (λ size. tags.Tuple size) 2 15 n
count_again n high = size_again (λ size. tags.Tuple size) 2 15 n refl tuple_again refl refl high

-- ---- byte strings

pub first_take : (n : ℕ) (rest t after : List ℕ) → first_bytes n rest ≡ Ok (t, after) → (rest ≡ t ++ after) × (length t ≡ n)
first_take n rest t after e =
    let g = kept_there (ltb (length rest) n) (take n rest, drop n rest) (t, after) e in
    let there : n ≤ length rest = ltb-false (length rest) n g.0 in
    let size : length (take n rest) ≡ n = omega (arith, length-take n rest) in
    subst (λ (x : List ℕ × List ℕ). (rest ≡ x.0 ++ x.1) × (length x.0 ≡ n)) g.1 (sym (take-append-drop n rest), size)
  where
    kept_there : (test : Bool) (x y : List ℕ × List ℕ) → cond test (Err (0, kinds.B3)) (Ok x) ≡ done y → (test ≡ false) × (x ≡ y)
    kept_there test x y e = passed test x y (0, kinds.B3) e

pub first_again : (t rest : List ℕ) → first_bytes (length t) (t ++ rest) ≡ Ok (t, rest)
first_again t rest =
    let there : ltb (length (t ++ rest)) (length t) ≡ false = le-ltb _ _ (omega (arith, length-append t rest)) in
    rw (there, take_at t rest (length t) refl, drop_at t rest (length t) refl) refl

pub record BytesFound (bytes t rest : List ℕ) : Type 0 where
  pub parts : bytes ≡ bytes_spelling t ++ rest
  pub high : length t < 2 ^ 32

pub bytes_take : (b : ℕ) (size : Size) (left : ℕ) (bytes t rest : List ℕ) → IsSize 1 9 b size → IsBytes bytes → bytes_at 5 size left bytes ≡ Ok (t, rest) → BytesFound (b ∷ bytes) t rest
unfolding bytes_at
bytes_take b size left bytes t rest m fits e =
    let a = bind_ok (size_at 5 size left bytes) (λ n. first_bytes n.0 n.1) (t, rest) e in
    let n = a.0.0 in
    let more = a.0.1 in
    let front = size_takes 1 9 b size left bytes n more m fits a.1 in
    let found = first_take n more t rest a.2 in
    let whole : b ∷ bytes ≡ bytes_spelling t ++ rest =
    front.parts ∙ ap (λ (x : List ℕ). length_spelling n ++ x) found.0 ∙ sym (append_assoc (length_spelling n) t rest) ∙ ap (λ (k : ℕ). (length_spelling k ++ t) ++ rest) (sym found.1) in
    record { parts = whole; high = omega (arith, front.high, found.1) }

-- a byte string is read again behind its tag
pub record BytesAgain (t : List ℕ) : Type 0 where
  pub tag : ℕ
  pub size : Size
  pub field : List ℕ
  pub parts : bytes_spelling t ≡ tag ∷ field
  pub means : tag_at tag ≡ tags.Bytes size
  pub again : (left : ℕ) (rest : List ℕ) → bytes_at 5 size left (field ++ rest) ≡ Ok (t, rest)

pub bytes_are_again : (t : List ℕ) → length t < 2 ^ 32 → BytesAgain t
unfolding bytes_at
bytes_are_again t high =
    let s = length_again (length t) high in
    record {
      tag = s.tag;
      size = s.size;
      field = s.field ++ t;
      parts = ap (λ (x : List ℕ). x ++ t) s.parts;
      means = s.means;
      again = λ left rest. ap (λ (x : List ℕ). size_at 5 s.size left x >>= λ n. first_bytes n.0 n.1) (append_assoc s.field t rest) ∙ ap (λ (r : Read ℕ). r >>= λ n. first_bytes n.0 n.1) (s.again left (t ++ rest)) ∙ first_again t rest;
    }
