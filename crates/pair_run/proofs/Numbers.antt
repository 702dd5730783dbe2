-- Numbers below a bound, and texts of numbers without a sign.
use Rattle.std.proofs.Common.{◌≡◌, ◌≢◌, ℕ, ◌^◌, ◌<◌, ◌≤◌, ℤ, zero, suc, pos, ◌⊎◌, inl, inr, List, [], ◌∷◌, Option, Some, None, Ok, Err, Bool, true, false, not, ◌&&◌, eqb, nat_le, cond, option_map, arith, ap, sym, ◌∙◌, refl, subst}
use Rattle.std.proofs.lemmas.Bool.{eqb-true, ne_eqb, leb-true, le-leb, ltb-true, lt-ltb, and_parts, and_from}
use Rattle.std.proofs.lemmas.Fmt.{decimal_digit}
use Rattle.std.specs.Fmt.{decimal, signed_decimal}
use Rattle.std.specs.Int.{is_in_range}
use Rattle.std.specs.Str.{all_ascii_digits}
use Rattle.py_ints.specs.IntLaws.{first_digit, decimal_digits, positive_shortest, read_back, shortest, written}
use Rattle.py_ints.specs.IntTexts.{natural, natural_value, int_value, fits, within, is_shortest, is_positive_text}
use Rattle.py_ints.specs.declared.reading.IntText.TheVariants as int_text
use Rattle.pair_run.specs.Scripts.{IsNumber, read_or_none, is_end, number_text}

-- a test that holds of each number below a bound
abbrev pub all_below : ℕ → (ℕ → Bool) → Bool
all_below zero p = true
all_below (suc k) p = p k && all_below k p

is_last : (k n : ℕ) → n < suc k → (n ≡ k) ⊎ (n < k)
is_last k n below = grind arith

at_either : (k : ℕ) (p : ℕ → Bool) → p k ≡ true → (n : ℕ) → (n < k → p n ≡ true) → (n ≡ k) ⊎ (n < k) → p n ≡ true
at_either k p h n below (inl e) = ap p e ∙ h
at_either k p h n below (inr l) = below l

pub from_all : (k : ℕ) (p : ℕ → Bool) → all_below k p ≡ true → (n : ℕ) → n < k → p n ≡ true
from_all zero p h n below = absurd (omega arith)
from_all (suc k) p h n below = let parts = and_parts (p k) (all_below k p) h in at_either k p parts.0 n (from_all k p parts.1 n) (is_last k n below)

same : {A : Type 0} (x y : A) → Some x ≡ Some y → x ≡ y
same x y e = cc

-- ---- what is read

fitting : (t : Bool) (y z : ℤ) → fits y ≡ t → read_or_none (cond t (Ok y) (Err int_text.Wide)) ≡ Some z → (y ≡ z) × (fits z ≡ true)
fitting true y z h e = let is : y ≡ z = same y z e in (is, sym (ap fits is) ∙ h)
fitting false y z h e = cc

read_gives : (o : Option ℤ) (z : ℤ) → read_or_none (within o) ≡ Some z → (o ≡ Some z) × (fits z ≡ true)
read_gives None z e = cc
read_gives (Some y) z e = let parts = fitting (fits y) y z refl e in (ap Some parts.0, parts.1)

natural_gives : (t : Bool) (n : ℕ) (z : ℤ) → option_map pos (cond t (Some n) None) ≡ Some z → (t ≡ true) × (pos n ≡ z)
natural_gives true n z e = (refl, same (pos n) z e)
natural_gives false n z e = cc

-- digits that begin with none of `0`, `-` and `+`
digits_read : (c : ℕ) (ds : List ℕ) (z : ℤ) → 49 ≤ c → c ≤ 57 → int_value (c ∷ ds) ≡ Some z → fits z ≡ true → IsNumber z × (c ∷ ds ≡ signed_decimal z)
digits_read c ds z low high e f =
    let no_minus : eqb c 45 ≡ false = ne_eqb c 45 (λ k. omega arith) in
    let no_plus : eqb c 43 ≡ false = ne_eqb c 43 (λ k. omega arith) in
    let no_zero : eqb c 48 ≡ false = ne_eqb c 48 (λ k. omega arith) in
    let plain : int_value (c ∷ ds) ≡ option_map pos (natural_value (c ∷ ds)) = rw (no_minus, no_plus) refl in
    let read = natural_gives (all_ascii_digits (c ∷ ds)) (natural (c ∷ ds)) z (sym plain ∙ e) in
    let other : not (eqb c 48) ≡ true = ap not no_zero in
    let positive : is_positive_text (c ∷ ds) ≡ true = and_from (not (eqb c 48)) (all_ascii_digits (c ∷ ds)) other read.0 in
    let small : fits (pos (natural (c ∷ ds))) ≡ true = ap fits read.1 ∙ f in
    ((natural (c ∷ ds), sym read.1, ltb-true (natural (c ∷ ds)) (2 ^ 127) small), written (c ∷ ds) z (positive_shortest (c ∷ ds) positive) f e)

ends : (ds : List ℕ) → is_end ds ≡ true → ds ≡ []
ends [] h = refl
ends (d ∷ ds) h = cc

zero_read : (c : ℕ) (ds : List ℕ) (z : ℤ) → eqb c 48 && is_end ds ≡ true → Some (pos 0) ≡ Some z → IsNumber z × (c ∷ ds ≡ signed_decimal z)
zero_read c ds z h e =
    let tests = and_parts (eqb c 48) (is_end ds) h in
    let is : pos 0 ≡ z = same (pos 0) z e in
    ((0, sym is, omega arith), ap (λ m. m ∷ ds) (eqb-true c 48 tests.0) ∙ ap (λ ms. 48 ∷ ms) (ends ds tests.1) ∙ sym (decimal_digit 0 (omega arith)) ∙ ap signed_decimal is)

in_range : (low high c : ℕ) → is_in_range low high c ≡ true → (low ≤ c) × (c ≤ high)
in_range low high c h = let parts = and_parts (nat_le low c) (nat_le c high) h in (leb-true low c parts.0, leb-true c high parts.1)

text_read : (t u : Bool) (c : ℕ) (ds : List ℕ) (z : ℤ) → eqb c 48 && is_end ds ≡ t → is_in_range 49 57 c ≡ u
    → cond t (Some (pos 0)) (cond u (read_or_none (within (int_value (c ∷ ds)))) None) ≡ Some z → IsNumber z × (c ∷ ds ≡ signed_decimal z)
text_read true u c ds z h k e = zero_read c ds z h e
text_read false true c ds z h k e =
    let range = in_range 49 57 c k in
    let read = read_gives (int_value (c ∷ ds)) z e in
    digits_read c ds z range.0 range.1 read.0 read.1
text_read false false c ds z h k e = cc

-- what is read is the digits of a number that fits
pub number_text_reads : (ds : List ℕ) (z : ℤ) → number_text ds ≡ Some z → IsNumber z × (ds ≡ signed_decimal z)
number_text_reads [] z h = cc
number_text_reads (c ∷ ds) z h = text_read (eqb c 48 && is_end ds) (is_in_range 49 57 c) c ds z refl refl h

-- ---- and every such number is read

range_is : (c : ℕ) → 49 ≤ c → c ≤ 57 → is_in_range 49 57 c ≡ true
range_is c low high = and_from (nat_le 49 c) (nat_le c 57) (le-leb 49 c low) (le-leb c 57 high)

unended : (t : Bool) → t && false ≡ false
unended true = refl
unended false = refl

read_as : (c : ℕ) (ds : List ℕ) (z : ℤ) → eqb c 48 && is_end ds ≡ false → 49 ≤ c → c ≤ 57 → int_value (c ∷ ds) ≡ Some z → fits z ≡ true → number_text (c ∷ ds) ≡ Some z
read_as c ds z h low high e f = rw (h, range_is c low high, e, f) refl

one_digit : (t : Bool) (c : ℕ) (z : ℤ) → eqb c 48 ≡ t → 48 ≤ c → c ≤ 57 → int_value (c ∷ []) ≡ Some z → fits z ≡ true → number_text (c ∷ []) ≡ Some z
one_digit true c z h low high e f =
    let is : c ≡ 48 = eqb-true c 48 h in
    let F : ℕ → Type 0 = λ m. int_value (m ∷ []) ≡ Some z → number_text (m ∷ []) ≡ Some z in
    subst F (sym is) (λ k. k) e
one_digit false c z h low high e f =
    let other : c ≢ 48 = λ k. absurd_eq c k h in
    read_as c [] z (ap (λ t. t && true) h) (omega (arith, other)) high e f
  where
    absurd_eq : (c : ℕ) → c ≡ 48 → eqb c 48 ≡ false → ⊥
    absurd_eq c k h = let wrong : eqb 48 48 ≡ false = subst (λ m. eqb m 48 ≡ false) k h in cc

digits_again : (t : List ℕ) (z : ℤ) → is_shortest t ≡ true → all_ascii_digits t ≡ true → int_value t ≡ Some z → fits z ≡ true → number_text t ≡ Some z
digits_again [] z s d e f = cc
digits_again (c ∷ []) z s d e f = let range = first_digit c [] d in one_digit (eqb c 48) c z refl range.0 range.1 e f
digits_again (c ∷ b ∷ ds) z s d e f =
    let range = first_digit c (b ∷ ds) d in
    let no_minus : eqb c 45 ≡ false = ne_eqb c 45 (λ k. omega (arith, range.0)) in
    let positive : is_positive_text (c ∷ b ∷ ds) ≡ true = sym (ap (λ (t : Bool). cond t (is_positive_text (b ∷ ds)) (is_positive_text (c ∷ b ∷ ds))) no_minus) ∙ s in
    let other : not (eqb c 48) ≡ true = (and_parts (not (eqb c 48)) (all_ascii_digits (c ∷ b ∷ ds)) positive).0 in
    let no_zero : c ≢ 48 = λ k. no_zero_at c k other in
    read_as c (b ∷ ds) z (unended (eqb c 48)) (omega (arith, range.0, no_zero)) range.1 e f
  where
    no_zero_at : (c : ℕ) → c ≡ 48 → not (eqb c 48) ≡ true → ⊥
    no_zero_at c k h = let wrong : not (eqb 48 48) ≡ true = subst (λ m. not (eqb m 48) ≡ true) k h in cc

pub number_text_of : (n : ℕ) → n < 2 ^ 127 → number_text (signed_decimal (pos n)) ≡ Some (pos n)
number_text_of n h =
    let fit : fits (pos n) ≡ true = lt-ltb n (2 ^ 127) h in
    digits_again (decimal n) (pos n) (shortest (pos n) fit) (decimal_digits n (omega arith)) (read_back (pos n) fit) fit
