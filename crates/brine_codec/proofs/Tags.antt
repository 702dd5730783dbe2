-- What a tag means, both ways.
use Rattle.std.proofs.Common.{◌≡◌, ℕ, zero, suc, ℤ, pos, negsuc, ◌+◌, ◌-◌, ◌-ℤ◌, ◌<◌, Bool, true, false, cond, eqb, ltb, ◌&&◌, refl, ap, ◌∙◌, arith, ◌≤◌}
use Rattle.std.proofs.lemmas.Int.{ints}
use Rattle.std.proofs.lemmas.Bool.{ltb-true, ltb-false, eqb-true, ne_eqb, lt-ltb, le-ltb}
use Rattle.brine_codec.specs.declared.tag.Tag.{Tag}
use Rattle.brine_codec.specs.declared.tag.Tag.TheVariants as tags
use Rattle.brine_codec.specs.declared.tag.Size.{Size}
use Rattle.brine_codec.specs.declared.tag.Size.TheVariants as sizes
use Rattle.brine_codec.specs.Spelling.{int_tag, is_small_int}
use Rattle.brine_codec.specs.Reading.{tag_at}
use Rattle.brine_codec.proofs.Values.{both, joined}

-- the tag of a size, by the tag of 0 and the one before that of 1
abbrev pub IsSize : ℕ → ℕ → ℕ → Size → Type 0
IsSize empty base b (sizes.Of zero) = b ≡ empty
IsSize empty base b (sizes.Of (suc n)) = (b ≡ base + suc n) × (suc n < 5)
IsSize empty base b sizes.Byte = b ≡ base + 5
IsSize empty base b sizes.FourBytes = b ≡ base + 6

-- a tag stands for nothing else
abbrev pub Means : ℕ → Tag → Type 0
Means b tags.None = b ≡ 0
Means b (tags.Bool x) = b ≡ cond x 3 4
Means b tags.NotImpl = b ≡ 5
Means b tags.Ellipsis = b ≡ 6
Means b (tags.Int n) = (b ≡ int_tag n) × (is_small_int n ≡ true)
Means b (tags.IntText (sizes.Of n)) = ⊥
Means b (tags.IntText sizes.Byte) = b ≡ 22
Means b (tags.IntText sizes.FourBytes) = b ≡ 23
Means b tags.Text = b ≡ 8
Means b (tags.Bytes size) = IsSize 1 9 b size
Means b (tags.Tuple size) = IsSize 2 15 b size
Means b tags.LeftOut = Unit {0}
Means b tags.Unknown = Unit {0}

chosen : (P : Tag → Type 0) (test : Bool) (x y : Tag) → (test ≡ true → P x) → (test ≡ false → P y) → P (cond test x y)
chosen P true x y f g = f refl
chosen P false x y f g = g refl

int_by_test : (b : ℕ) (test : Bool) → ltb b 80 ≡ test → 31 < b → b < 240 → Means b (tags.Int (cond test (negsuc (80 - suc b)) (pos (b - 80))))
int_by_test b true e low high =
    let below : b < 80 = ltb-true b 80 e in
    (omega arith, lt-ltb (80 - suc b) 48 (omega arith))
int_by_test b false e low high =
    let above : 80 ≤ b = ltb-false b 80 e in
    (omega arith, lt-ltb (b - 80) 160 (omega arith))

int_means : (b : ℕ) → 31 < b → b < 240 → Means b (tags.Int (pos b -ℤ pos 80))
int_means b low high = int_by_test b (ltb b 80) refl low high

size_means : (empty base b n : ℕ) → 0 < n → n < 5 → b ≡ base + n → IsSize empty base b (sizes.Of n)
size_means empty base b zero low high e = absurd (omega arith)
size_means empty base b (suc n) low high e = (e, high)

within : (m b n : ℕ) → ltb m b && ltb b n ≡ true → (m < b) × (b < n)
within m b n h = let parts = both (ltb m b) (ltb b n) h in (ltb-true m b parts.0, ltb-true b n parts.1)

bytes_means : (b : ℕ) → 9 < b → b < 14 → Means b (tags.Bytes (sizes.Of (b - 9)))
bytes_means b low high = size_means 1 9 b (b - 9) (omega arith) (omega arith) (omega arith)

tuple_means : (b : ℕ) → 15 < b → b < 20 → Means b (tags.Tuple (sizes.Of (b - 15)))
tuple_means b low high = size_means 2 15 b (b - 15) (omega arith) (omega arith) (omega arith)

pub tag_means : (b : ℕ) → Means b (tag_at b)
tag_means b =
    chosen (Means b) (eqb b 0) _ _ (λ h. eqb-true _ _ h)
    (λ _. chosen (Means b) (eqb b 1) _ _ (λ h. eqb-true _ _ h)
    (λ _. chosen (Means b) (eqb b 2) _ _ (λ h. eqb-true _ _ h)
    (λ _. chosen (Means b) (eqb b 3) _ _ (λ h. eqb-true _ _ h)
    (λ _. chosen (Means b) (eqb b 4) _ _ (λ h. eqb-true _ _ h)
    (λ _. chosen (Means b) (eqb b 5) _ _ (λ h. eqb-true _ _ h)
    (λ _. chosen (Means b) (eqb b 6) _ _ (λ h. eqb-true _ _ h)
    (λ _. chosen (Means b) (eqb b 8) _ _ (λ h. eqb-true _ _ h)
    (λ _. chosen (Means b) (ltb 9 b && ltb b 14) _ _ (λ h. let w = within 9 b 14 h in bytes_means b w.0 w.1)
    (λ _. chosen (Means b) (eqb b 14) _ _ (λ h. eqb-true _ _ h)
    (λ _. chosen (Means b) (eqb b 15) _ _ (λ h. eqb-true _ _ h)
    (λ _. chosen (Means b) (ltb 15 b && ltb b 20) _ _ (λ h. let w = within 15 b 20 h in tuple_means b w.0 w.1)
    (λ _. chosen (Means b) (eqb b 20) _ _ (λ h. eqb-true _ _ h)
    (λ _. chosen (Means b) (eqb b 21) _ _ (λ h. eqb-true _ _ h)
    (λ _. chosen (Means b) (eqb b 22) _ _ (λ h. eqb-true _ _ h)
    (λ _. chosen (Means b) (eqb b 23) _ _ (λ h. eqb-true _ _ h)
    (λ _. chosen (Means b) (ltb 23 b && ltb b 28) _ _ (λ h. tt)
    (λ _. chosen (Means b) (ltb 31 b && ltb b 240) _ _ (λ h. let w = within 31 b 240 h in int_means b w.0 w.1) (λ _. tt))))))))))))))))))

-- ---- the tag of an int

int_front : (b : ℕ) → 31 < b → b < 240 → tag_at b ≡ tags.Int (pos b -ℤ pos 80)
int_front b low high =
    let test : (ltb 31 b && ltb b 240) ≡ true = joined _ _ (lt-ltb 31 b low) (lt-ltb b 240 high) in
    let other : (n : ℕ) → n < 32 → eqb b n ≡ false = λ n few. ne_eqb b n (λ e. omega arith) in
    let above : (m n : ℕ) → n < 32 → (ltb m b && ltb b n) ≡ false = λ m n few. not_both (ltb m b) (ltb b n) (le-ltb b n (omega arith)) in
    rw (
      other 0 (omega arith),
      other 1 (omega arith),
      other 2 (omega arith),
      other 3 (omega arith),
      other 4 (omega arith),
      other 5 (omega arith),
      other 6 (omega arith),
      other 8 (omega arith),
      above 9 14 (omega arith),
      other 14 (omega arith),
      other 15 (omega arith),
      above 15 20 (omega arith),
      other 20 (omega arith),
      other 21 (omega arith),
      other 22 (omega arith),
      other 23 (omega arith),
      above 23 28 (omega arith),
      test,
    ) refl
  where
    not_both : (x y : Bool) → y ≡ false → (x && y) ≡ false
    not_both true y e = e
    not_both false y e = refl

up : (n : ℕ) → (pos (n + 80) -ℤ pos 80) ≡ pos n
up n = omega (arith, ints)

down : (n : ℕ) → n < 48 → (pos (79 - n) -ℤ pos 80) ≡ negsuc n
down n low = omega (arith, ints)

pub int_again : (n : ℤ) → is_small_int n ≡ true → tag_at (int_tag n) ≡ tags.Int n
int_again (pos n) h = let low : n < 160 = ltb-true n 160 h in int_front (n + 80) (omega arith) (omega arith) ∙ ap (λ (z : ℤ). tags.Int z) (up n)
int_again (negsuc n) h = let low : n < 48 = ltb-true n 48 h in int_front (79 - n) (omega arith) (omega arith) ∙ ap (λ (z : ℤ). tags.Int z) (down n low)

-- ---- the tags of lengths and counts

pub bytes_again : (n : ℕ) → 0 < n → n < 5 → tag_at (9 + n) ≡ tags.Bytes (sizes.Of n)
bytes_again zero l h = absurd (omega arith)
bytes_again (suc zero) l h = refl
bytes_again (suc (suc zero)) l h = refl
bytes_again (suc (suc (suc zero))) l h = refl
bytes_again (suc (suc (suc (suc zero)))) l h = refl
bytes_again (suc (suc (suc (suc (suc n))))) l h = absurd (omega arith)

pub tuple_again : (n : ℕ) → 0 < n → n < 5 → tag_at (15 + n) ≡ tags.Tuple (sizes.Of n)
tuple_again zero l h = absurd (omega arith)
tuple_again (suc zero) l h = refl
tuple_again (suc (suc zero)) l h = refl
tuple_again (suc (suc (suc zero))) l h = refl
tuple_again (suc (suc (suc (suc zero)))) l h = refl
tuple_again (suc (suc (suc (suc (suc n))))) l h = absurd (omega arith)
