-- Powers and shifts by more than an int's bits.
use Rattle.std.proofs.Common.{◌≡◌, ◌≢◌, ℕ, zero, suc, ◌-◌, ◌*◌, ◌/◌, ◌%◌, ◌^◌, ◌<◌, ◌≤◌, ℤ, pos, negsuc, neg_ℤ, ◌*ℤ◌, ◌<ℤ◌, ◌≤ℤ◌, FitsSigned, Bool, true, false, cond, eqb, Ok, Err, refl, sym, ap, ◌∙◌, subst, to_z, of_z, arith}
use Rattle.std.specs.Int.{w128, int_pow}
use Rattle.std.specs.Int.RustNames.{unsigned_abs}
use Rattle.std.proofs.lemmas.Bool.{eqb-true, ne_eqb}
use Rattle.std.specs.Int.Signed.{rem_z}
use Rattle.std.proofs.lemmas.Int.{ints, to_z-of_z, to_z_pos}
use Rattle.std.proofs.lemmas.Nat.{pow_pos}
use Rattle.std.proofs.Math.Nat.{div-eq_of_lt, mod-eq_of_lt, pow-suc, pow-zero, pow-le-pow_left, mul-le-mul_left}
use Rattle.std.proofs.Math.Pow.{pow_mono}
use Rattle.py_ints.specs.Arithmetic.{exact, power, left_shift, right_shift}
use Rattle.py_ints.specs.declared.arithmetic.IntEnd.TheVariants as end
use Rattle.py_ints.proofs.Fitting.{too_wide, given, plain_args}

-- ---- a power is a product

opposite_twice : (n a : ℕ) → neg_ℤ (pos n) *ℤ negsuc a ≡ pos (n * suc a)
opposite_twice zero a = omega (arith, ints)
opposite_twice (suc n) a = refl

not_even : (k : ℕ) → eqb (k % 2) 0 ≡ false → k % 2 ≢ 0
not_even k h is = let wrong : true ≡ false = ap (λ (n : ℕ). eqb n 0) (sym is) ∙ h in cc

pub no_power : (a : ℤ) → int_pow a 0 ≡ pos 1
no_power (pos a) = ap pos (pow-zero a)
no_power (negsuc a) = ap pos (pow-zero (suc a))

pub one_more : (a : ℤ) (e : ℕ) → int_pow a (suc e) ≡ int_pow a e *ℤ a
one_more (pos a) e = ap pos (pow-suc a e)
one_more (negsuc a) e = split (eqb (e % 2) 0) (eqb (suc e % 2) 0) refl refl
  where
    step : suc a ^ suc e ≡ suc a ^ e * suc a
    step = pow-suc (suc a) e

    split : (t u : Bool) → eqb (e % 2) 0 ≡ t → eqb (suc e % 2) 0 ≡ u → cond u (pos (suc a ^ suc e)) (neg_ℤ (pos (suc a ^ suc e))) ≡ cond t (pos (suc a ^ e)) (neg_ℤ (pos (suc a ^ e))) *ℤ negsuc a
    split true false even odd = ap (λ (n : ℕ). neg_ℤ (pos n)) step
    split false true odd even = ap pos step ∙ sym (opposite_twice (suc a ^ e) a)
    split true true even odd = absurd (omega (arith, eqb-true (e % 2) 0 even, eqb-true (suc e % 2) 0 odd))
    split false false even odd = absurd (omega (arith, not_even e even, not_even (suc e) odd))

-- ---- what is too large

far : (k : ℕ) → 127 < k → 2 ^ 128 ≤ 2 ^ k
far k h = let order : 128 ≤ k = omega arith in pow_mono order

at_least : (k : ℕ) → 127 ≤ k → 2 ^ 127 ≤ 2 ^ k
at_least k h = pow_mono h

wide_above : (n : ℕ) → 2 ^ 127 ≤ n → Err end.BeyondInt ≡ exact (pos n)
wide_above n h = too_wide (pos n) (λ f. let low : n < 2 ^ 127 = f.sfits in omega arith)

wide_below : (n : ℕ) → 2 ^ 127 < n → Err end.BeyondInt ≡ exact (neg_ℤ (pos n))
wide_below zero h = absurd (omega arith)
wide_below (suc n) h = too_wide (negsuc n) (λ f. let low : n < 2 ^ 127 = f.sfits in omega arith)

-- ---- powers

zero_power : (e : ℕ) → 0 ^ suc e ≡ 0
zero_power e = let step = pow-suc 0 e in omega (arith, step)

one_power : (e : ℕ) → 1 ^ e ≡ 1
one_power zero = refl
one_power (suc e) = let step = pow-suc 1 e in omega (arith, step, one_power e)

large_power : (n k : ℕ) → 1 < n → 127 < k → 2 ^ 127 < n ^ k
large_power n k some h = let order : 2 ≤ n = omega arith in let more : 2 ^ k ≤ n ^ k = pow-le-pow_left order k in omega (arith, far k h, more)

pub wide_power : (a b : ℤ) → 1 < unsigned_abs a → pos 127 <ℤ b → Err end.BeyondInt ≡ power a b
wide_power (pos n) (pos k) some h = wide_above (n ^ k) (omega (arith, large_power n k some (omega (arith, ints))))
wide_power (negsuc n) (pos k) some h = split (eqb (k % 2) 0)
  where
    high : 2 ^ 127 < suc n ^ k
    high = large_power (suc n) k some (omega (arith, ints))

    split : (t : Bool) → Err end.BeyondInt ≡ exact (cond t (pos (suc n ^ k)) (neg_ℤ (pos (suc n ^ k))))
    split true = wide_above (suc n ^ k) (omega (arith, high))
    split false = wide_below (suc n ^ k) high
wide_power a (negsuc k) some h = absurd (omega (arith, ints))

-- 0, 1 and -1
pub even_power : (a : ℤ) (k : ℕ) → unsigned_abs a ≤ 1 → 0 < k → k % 2 ≡ 0 → a *ℤ a ≡ int_pow a k
even_power (pos zero) zero few some even = absurd (omega arith)
even_power (pos zero) (suc k) few some even = ap pos (sym (zero_power k))
even_power (pos (suc zero)) k few some even = ap pos (sym (one_power k))
even_power (pos (suc (suc n))) k few some even = absurd (omega arith)
even_power (negsuc zero) k few some even = ap pos (sym (one_power k)) ∙ sym (ap (λ (r : ℕ). cond (eqb r 0) (pos (1 ^ k)) (neg_ℤ (pos (1 ^ k)))) even)
even_power (negsuc (suc n)) k few some even = absurd (omega arith)

pub odd_power : (a : ℤ) (k : ℕ) → unsigned_abs a ≤ 1 → 0 < k → k % 2 ≢ 0 → a ≡ int_pow a k
odd_power (pos zero) zero few some odd = absurd (omega arith)
odd_power (pos zero) (suc k) few some odd = ap pos (sym (zero_power k))
odd_power (pos (suc zero)) k few some odd = ap pos (sym (one_power k))
odd_power (pos (suc (suc n))) k few some odd = absurd (omega arith)
odd_power (negsuc zero) k few some odd = ap (λ (n : ℕ). neg_ℤ (pos n)) (sym (one_power k)) ∙ sym (ap (λ (t : Bool). cond t (pos (1 ^ k)) (neg_ℤ (pos (1 ^ k)))) (ne_eqb (k % 2) 0 odd))
odd_power (negsuc (suc n)) k few some odd = absurd (omega arith)

-- the same with the code's numbers
size : (a : ℤ) (n : ℕ) → FitsSigned w128 a → n ≡ unsigned_abs (to_z w128 (of_z w128 a)) → n ≡ unsigned_abs a
size a n f e = e ∙ ap unsigned_abs (to_z-of_z w128 a f)

pub wide_size : (a b : ℤ) (n : ℕ) → FitsSigned w128 a → n ≡ unsigned_abs (to_z w128 (of_z w128 a)) → 1 < n → pos 127 <ℤ b → Err end.BeyondInt ≡ power a b
wide_size a b n f e some h = wide_power a b (subst (λ (x : ℕ). 1 < x) (size a n f e) some) h

square_fits : (a : ℤ) → unsigned_abs a ≤ 1 → FitsSigned w128 (a *ℤ a)
square_fits (pos zero) few = record { sfits = omega arith }
square_fits (pos (suc zero)) few = record { sfits = omega arith }
square_fits (pos (suc (suc n))) few = absurd (omega arith)
square_fits (negsuc zero) few = record { sfits = omega arith }
square_fits (negsuc (suc n)) few = absurd (omega arith)

halved : (k : ℕ) → FitsSigned w128 (pos k) → of_z w128 (rem_z (to_z w128 (of_z w128 (pos k))) (pos 2)) ≡ k % 2
halved k f = ap (λ (z : ℤ). of_z w128 (rem_z z (pos 2))) (to_z-of_z w128 (pos k) f)

pub even_size : (a b : ℤ) (n : ℕ) → FitsSigned w128 a → FitsSigned w128 b → n ≡ unsigned_abs (to_z w128 (of_z w128 a)) → n ≤ 1 → pos 127 <ℤ b
    → of_z w128 (rem_z (to_z w128 (of_z w128 b)) (pos 2)) ≡ 0 → Ok (to_z w128 (of_z w128 (to_z w128 (of_z w128 a) *ℤ to_z w128 (of_z w128 a)))) ≡ power a b
even_size a (pos k) n f g e few h even =
    let small : unsigned_abs a ≤ 1 = subst (λ (x : ℕ). x ≤ 1) (size a n f e) few in
    let is : a *ℤ a ≡ int_pow a k = even_power a k small (omega (arith, ints)) (sym (halved k g) ∙ even) in
    given (to_z w128 (of_z w128 a) *ℤ to_z w128 (of_z w128 a)) (int_pow a k) (plain_args (λ (x y : ℤ). x *ℤ y) a a f f ∙ is) (subst (FitsSigned w128) is (square_fits a small))
even_size a (negsuc k) n f g e few h even = absurd (omega (arith, ints))

pub odd_size : (a b : ℤ) (n : ℕ) → FitsSigned w128 a → FitsSigned w128 b → n ≡ unsigned_abs (to_z w128 (of_z w128 a)) → n ≤ 1 → pos 127 <ℤ b
    → (of_z w128 (rem_z (to_z w128 (of_z w128 b)) (pos 2)) ≡ 0 → ⊥) → Ok (to_z w128 (of_z w128 a)) ≡ power a b
odd_size a (pos k) n f g e few h odd =
    let is : a ≡ int_pow a k = odd_power a k (subst (λ (x : ℕ). x ≤ 1) (size a n f e) few) (omega (arith, ints)) (λ u. odd (halved k g ∙ u)) in
    given a (int_pow a k) is (subst (FitsSigned w128) is f)
odd_size a (negsuc k) n f g e few h odd = absurd (omega (arith, ints))

-- ---- shifts to the left

-- `1 << k`
one_at : (k : ℕ) → k < 127 → to_z w128 (1 * 2 ^ k % 2 ^ 128) ≡ pos (2 ^ k)
one_at k h =
    let order : suc k ≤ 127 = omega arith in
    let twice : 2 ^ suc k ≤ 2 ^ 127 = pow_mono order in
    let small : 2 ^ k < 2 ^ 127 = omega (arith, twice, pow-suc 2 k, pow_pos k) in
    let once : 1 * 2 ^ k ≡ 2 ^ k = omega arith in
    ap (λ (x : ℕ). to_z w128 (x % 2 ^ 128)) once ∙ ap (to_z w128) (mod-eq_of_lt (wider (2 ^ k) small)) ∙ to_z_pos w128 (2 ^ k) small
  where
    wider : (n : ℕ) → n < 2 ^ 127 → n < 2 ^ 128
    wider n h = omega arith

pub times_power : (a : ℤ) (k : ℕ) → FitsSigned w128 a → k < 127 → exact (to_z w128 (of_z w128 a) *ℤ to_z w128 (1 * 2 ^ k % 2 ^ 128)) ≡ exact (a *ℤ pos (2 ^ k))
times_power a k f h = λ i. exact (to_z-of_z w128 a f i *ℤ one_at k h i)

pub minus_one_is : (a : ℤ) → FitsSigned w128 a → of_z w128 a ≡ 2 ^ 128 - 1 → a ≡ negsuc 0
minus_one_is (pos n) f e = let low : n < 2 ^ 127 = f.sfits in absurd (omega arith)
minus_one_is (negsuc n) f e = let low : n < 2 ^ 127 = f.sfits in ap negsuc (omega arith)

pub past : (b : ℤ) → pos 127 ≤ℤ b → (of_z w128 b ≡ 127 → ⊥) → pos 127 <ℤ b
past (pos n) h other = let differs : n ≢ 127 = other in omega (arith, ints, differs)
past (negsuc n) h other = absurd (omega (arith, ints))

scaled : (n m k : ℕ) → m ≤ n → 2 ^ 127 ≤ 2 ^ k → m * 2 ^ 127 ≤ n * 2 ^ k
scaled n m k some h = omega (arith, mul-le-mul_left n h, smaller m n some)
  where
    smaller : (m n : ℕ) → m ≤ n → m * 2 ^ 127 ≤ n * 2 ^ 127
    smaller m n h = omega arith

pub wide_shift : (a b : ℤ) → a ≢ pos 0 → a ≢ negsuc 0 → pos 127 ≤ℤ b → Err end.BeyondInt ≡ left_shift a b
wide_shift (pos zero) b some other h = absurd (some refl)
wide_shift (pos (suc n)) (pos k) some other h = wide_above (suc n * 2 ^ k) (omega (arith, scaled (suc n) 1 k (omega arith) (at_least k (omega (arith, ints)))))
wide_shift (negsuc zero) b some other h = absurd (other refl)
wide_shift (negsuc (suc n)) (pos k) some other h = wide_below (suc (suc n) * 2 ^ k) (omega (arith, scaled (suc (suc n)) 2 k (omega arith) (at_least k (omega (arith, ints)))))
wide_shift a (negsuc k) some other h = absurd (omega (arith, ints))

pub wide_minus_one : (b : ℤ) → pos 127 <ℤ b → Err end.BeyondInt ≡ left_shift (negsuc 0) b
wide_minus_one (pos k) h = wide_below (1 * 2 ^ k) (omega (arith, far k (omega (arith, ints))))
wide_minus_one (negsuc k) h = absurd (omega (arith, ints))

-- ---- shifts to the right

far_quotient : (n k : ℕ) → n < 2 ^ 127 → 127 < k → n / 2 ^ k ≡ 0
far_quotient n k f h = div-eq_of_lt (below n (2 ^ 128) (2 ^ k) (omega arith) (far k h))
  where
    below : (n a b : ℕ) → n < a → a ≤ b → n < b
    below n a b f g = omega arith

pub far_below : (a b : ℤ) → FitsSigned w128 a → pos 127 <ℤ b → a <ℤ pos 0 → Ok (negsuc 0) ≡ right_shift a b
far_below (negsuc n) (pos k) f g h = ap (λ (m : ℕ). Ok (negsuc m)) (sym (far_quotient n k f.sfits (omega (arith, ints))))
far_below (pos n) b f g h = absurd (omega (arith, ints))
far_below a (negsuc k) f g h = absurd (omega (arith, ints))

pub far_above : (a b : ℤ) → FitsSigned w128 a → pos 127 <ℤ b → pos 0 ≤ℤ a → Ok (pos 0) ≡ right_shift a b
far_above (pos n) (pos k) f g h = ap (λ (m : ℕ). Ok (pos m)) (sym (far_quotient n k f.sfits (omega (arith, ints))))
far_above (negsuc n) b f g h = absurd (omega (arith, ints))
far_above a (negsuc k) f g h = absurd (omega (arith, ints))
