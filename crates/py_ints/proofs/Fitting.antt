-- What fits 128 bits, and what the code's numbers are.
use Rattle.std.proofs.Common.{◌≡◌, ◌≢◌, ℕ, zero, suc, ◌-◌, ◌/◌, ◌%◌, ◌^◌, ◌<◌, ◌≤◌, ℤ, pos, negsuc, neg_ℤ, ◌+ℤ◌, ◌-ℤ◌, ◌<ℤ◌, FitsSigned, Bool, true, false, Ok, Err, refl, sym, ap, ◌∙◌, to_z, of_z, arith}
use Rattle.std.specs.Int.{w128, int_div_euclid, int_rem_euclid}
use Rattle.std.specs.Int.Signed.{lt_z}
use Rattle.std.proofs.lemmas.Bool.{lt-ltb, ltb-true}
use Rattle.std.proofs.lemmas.Int.{ints, to_z-of_z}
use Rattle.std.proofs.Math.Nat.{div-le_self, div-lt_self}
use Rattle.py_ints.specs.IntTexts.{fits}
use Rattle.py_ints.specs.Arithmetic.{exact, floor_div, floor_mod, quotient, remainder}
use Rattle.py_ints.specs.declared.arithmetic.IntEnd.TheVariants as end
use Rattle.py_ints.proofs.Division.{down_whole, down_part, rest_below}

pub fits_is : (z : ℤ) → FitsSigned w128 z → fits z ≡ true
fits_is (pos n) f = let low : n < 2 ^ 127 = f.sfits in lt-ltb n (2 ^ 127) low
fits_is (negsuc n) f = let low : n < 2 ^ 127 = f.sfits in lt-ltb n (2 ^ 127) low

pub is_fits : (z : ℤ) → fits z ≡ true → FitsSigned w128 z
is_fits (pos n) e = record { sfits = ltb-true n (2 ^ 127) e }
is_fits (negsuc n) e = record { sfits = ltb-true n (2 ^ 127) e }

pub held : (z : ℤ) → FitsSigned w128 z → Ok z ≡ exact z
held z f = let e : fits z ≡ true = fits_is z f in rw e refl

pub too_wide : (z : ℤ) → (FitsSigned w128 z → ⊥) → Err end.BeyondInt ≡ exact z
too_wide z wide = split (fits z) refl
  where
    split : (t : Bool) → fits z ≡ t → Err end.BeyondInt ≡ exact z
    split true e = absurd (wide (is_fits z e))
    split false e = rw e refl

-- the code's number q, where it is z
pub read : (q z : ℤ) → q ≡ z → FitsSigned w128 z → to_z w128 (of_z w128 q) ≡ z
read q z e f = ap (λ (x : ℤ). to_z w128 (of_z w128 x)) e ∙ to_z-of_z w128 z f

pub given : (q z : ℤ) → q ≡ z → FitsSigned w128 z → Ok (to_z w128 (of_z w128 q)) ≡ exact z
given q z e f = ap Ok (read q z e f) ∙ held z f

pub plain_args : (f : ℤ → ℤ → ℤ) (a b : ℤ) → FitsSigned w128 a → FitsSigned w128 b → f (to_z w128 (of_z w128 a)) (to_z w128 (of_z w128 b)) ≡ f a b
plain_args f a b fa fb = λ i. f (to_z-of_z w128 a fa i) (to_z-of_z w128 b fb i)

pub zero_is : (r : ℤ) → FitsSigned w128 r → of_z w128 r ≡ 0 → r ≡ pos 0
zero_is (pos n) f e = ap pos e
zero_is (negsuc n) f e = let low : n < 2 ^ 127 = f.sfits in absurd (omega arith)

pub below_zero : (b : ℤ) → FitsSigned w128 b → (of_z w128 b ≡ 0 → ⊥) → lt_z (pos 0) (to_z w128 (of_z w128 b)) ≡ false → b <ℤ pos 0
below_zero b f some e = sign b some (sym (ap (λ (x : ℤ). lt_z (pos 0) x) (to_z-of_z w128 b f)) ∙ e)
  where
    sign : (b : ℤ) → (of_z w128 b ≡ 0 → ⊥) → lt_z (pos 0) b ≡ false → b <ℤ pos 0
    sign (pos zero) some e = absurd (some refl)
    sign (pos (suc n)) some e = grind (arith, ints)
    sign (negsuc n) some e = omega (arith, ints)

-- ---- quotients

quotient_fits : (a : ℤ) (d : ℕ) → FitsSigned w128 a → 0 < d → FitsSigned w128 (floor_div a (negsuc d))
quotient_fits (pos zero) d f some = record { sfits = omega (arith, div-le_self 0 (suc d)) }
quotient_fits (pos (suc a)) d f some = record { sfits = omega (arith, div-le_self a (suc d), f.sfits) }
quotient_fits (negsuc a) d f some = let low : a < 2 ^ 127 = f.sfits in record { sfits = omega (arith, smaller a d some) }
  where
    smaller : (a d : ℕ) → 0 < d → suc a / suc d < suc a
    smaller a d some = div-lt_self (omega arith) (omega arith)

pub quotient_whole : (a b q r : ℤ) → FitsSigned w128 a → b <ℤ pos 0 → b ≢ negsuc 0 → q ≡ int_div_euclid a b → r ≡ int_rem_euclid a b → r ≡ pos 0 → Ok (to_z w128 (of_z w128 q)) ≡ quotient a b
quotient_whole a (negsuc (suc b)) q r f h m e u none = given q (floor_div a (negsuc (suc b))) (e ∙ (down_whole a (suc b) (sym u ∙ none)).0) (quotient_fits a (suc b) f (omega arith))
quotient_whole a (negsuc zero) q r f h m e u none = absurd (m refl)
quotient_whole a (pos b) q r f h m e u none = absurd (omega (arith, ints))

pub quotient_part : (a b q r : ℤ) → FitsSigned w128 a → b <ℤ pos 0 → b ≢ negsuc 0 → FitsSigned w128 q → q ≡ int_div_euclid a b → r ≡ int_rem_euclid a b → r ≢ pos 0 → Ok (to_z w128 (of_z w128 (to_z w128 (of_z w128 q) -ℤ pos 1))) ≡ quotient a b
quotient_part a (negsuc (suc b)) q r f h m g e u some =
    given (to_z w128 (of_z w128 q) -ℤ pos 1) (floor_div a (negsuc (suc b))) (ap (λ (x : ℤ). x -ℤ pos 1) (to_z-of_z w128 q g ∙ e) ∙ (down_part a (suc b) (λ k. some (u ∙ k))).0) (quotient_fits a (suc b) f (omega arith))
quotient_part a (negsuc zero) q r f h m g e u some = absurd (m refl)
quotient_part a (pos b) q r f h m g e u some = absurd (omega (arith, ints))

-- ---- remainders

opposite : (n : ℕ) → n ≤ 2 ^ 127 → FitsSigned w128 (neg_ℤ (pos n))
opposite zero h = record { sfits = omega arith }
opposite (suc n) h = record { sfits = omega arith }

remainder_fits : (a : ℤ) (d : ℕ) → FitsSigned w128 (negsuc d) → FitsSigned w128 (floor_mod a (negsuc d))
remainder_fits (pos zero) d f = let low : d < 2 ^ 127 = f.sfits in opposite (0 % suc d) (omega (arith, rest_below 0 d))
remainder_fits (pos (suc a)) d f = let low : d < 2 ^ 127 = f.sfits in opposite (suc d - 1 - a % suc d) (omega arith)
remainder_fits (negsuc a) d f = let low : d < 2 ^ 127 = f.sfits in opposite (suc a % suc d) (omega (arith, rest_below (suc a) d))

pub remainder_whole : (a b r : ℤ) → b <ℤ pos 0 → r ≡ int_rem_euclid a b → r ≡ pos 0 → Ok (pos 0) ≡ remainder a b
remainder_whole a (negsuc b) r h u none = ap Ok (sym none ∙ u ∙ (down_whole a b (sym u ∙ none)).1)
remainder_whole a (pos b) r h u none = absurd (omega (arith, ints))

pub remainder_part : (a b r : ℤ) → FitsSigned w128 b → b <ℤ pos 0 → FitsSigned w128 r → r ≡ int_rem_euclid a b → r ≢ pos 0 → Ok (to_z w128 (of_z w128 (to_z w128 (of_z w128 r) +ℤ to_z w128 (of_z w128 b)))) ≡ remainder a b
remainder_part a (negsuc b) r f h g u some =
    ap Ok (read (to_z w128 (of_z w128 r) +ℤ to_z w128 (of_z w128 (negsuc b))) (floor_mod a (negsuc b))
    (plain_args (λ (x y : ℤ). x +ℤ y) r (negsuc b) g f ∙ ap (λ (x : ℤ). x +ℤ negsuc b) u ∙ (down_part a b (λ k. some (u ∙ k))).1)
    (remainder_fits a b f))
remainder_part a (pos b) r f h g u some = absurd (omega (arith, ints))
