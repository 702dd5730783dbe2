-- The bits of `&`, `|`, `^` and `~`.
use Rattle.std.proofs.Common.{◌≡◌, ℕ, suc, ◌+◌, ◌-◌, ◌%◌, ◌^◌, ◌<◌, ◌≤◌, min, max, ℤ, pos, negsuc, FitsSigned, refl, sym, ap, ◌∙◌, to_z, of_z, Bool, true, false, nat_lt, arith}
use Rattle.std.proofs.lemmas.Bool.{ltb-true, ltb-false}
use Rattle.std.specs.Int.{w128, bit_at, bit_not, int_bit_and, int_bit_or, int_bit_xor}
use Rattle.std.specs.Int.RustNames.{bit_and, bit_or, bit_xor}
use Rattle.std.specs.Int.Bits.{and_lt}
use Rattle.std.proofs.lemmas.Int.{ints, of_z-to_z}
use Rattle.std.proofs.lemmas.Nat.{or_lt, xor_lt}
use Rattle.std.proofs.lemmas.Nat.Bits.{bit_at_and, bit_at_or, bit_at_xor, bit_at_not, bit_at_above}
use Rattle.std.proofs.Math.Facts.{sfits_to_z}
use Rattle.py_ints.specs.Arithmetic.{int_bit, complement}

-- a bit of a number below 0 is the other one of what its complement has
opposite : (n i : ℕ) → int_bit (negsuc n) i ≡ 1 - bit_at n i
opposite n i = omega arith

code_small : (z : ℤ) → FitsSigned w128 z → of_z w128 z < 2 ^ 128
code_small (pos n) f = let low : n < 2 ^ 127 = f.sfits in omega arith
code_small (negsuc n) f = omega arith

-- the 128 bits of the code
inside : (z : ℤ) (i : ℕ) → FitsSigned w128 z → i < 128 → int_bit z i ≡ bit_at (of_z w128 z) i
inside (pos n) i f h = refl
inside (negsuc n) i f h =
    let low : n < 2 ^ 127 = f.sfits in
    let turned : 2 ^ 128 - suc n ≡ bit_not w128 n = omega arith in
    opposite n i ∙ sym (ap (λ (x : ℕ). bit_at x i) turned ∙ bit_at_not w128 n i (omega arith) h)

-- all further bits are as the last of these
outside : (z : ℤ) (i : ℕ) → FitsSigned w128 z → 127 ≤ i → int_bit z i ≡ int_bit z 127
outside (pos n) i f h = let low : n < 2 ^ 127 = f.sfits in bit_at_above n 127 i low h ∙ sym (bit_at_above n 127 127 low (omega arith))
outside (negsuc n) i f h = let low : n < 2 ^ 127 = f.sfits in ap (λ (x : ℕ). 1 - x) (bit_at_above n 127 i low h ∙ sym (bit_at_above n 127 127 low (omega arith)))

-- what holds of the 128 bits of the code holds of all bits
module _ (f : ℕ → ℕ → ℕ) (g : ℕ → ℕ → ℕ) (small : (m n : ℕ) → m < 2 ^ 128 → n < 2 ^ 128 → f m n < 2 ^ 128) (each : (m n i : ℕ) → bit_at (f m n) i ≡ g (bit_at m i) (bit_at n i)) where
  within : (a b : ℤ) (i : ℕ) → FitsSigned w128 a → FitsSigned w128 b → i < 128 → int_bit (to_z w128 (f (of_z w128 a) (of_z w128 b))) i ≡ g (int_bit a i) (int_bit b i)
  within a b i fa fb h =
      let m = of_z w128 a in
      let n = of_z w128 b in
      let low = small m n (code_small a fa) (code_small b fb) in
      inside (to_z w128 (f m n)) i (sfits_to_z (record { fits = low })) h
      ∙ ap (λ (x : ℕ). bit_at x i) (of_z-to_z w128 (f m n) low)
      ∙ each m n i
      ∙ sym (λ j. g (inside a i fa h j) (inside b i fb h j))

  pub all_bits : (a b : ℤ) (i : ℕ) → FitsSigned w128 a → FitsSigned w128 b → int_bit (to_z w128 (f (of_z w128 a) (of_z w128 b))) i ≡ g (int_bit a i) (int_bit b i)
  all_bits a b i fa fb = split (nat_lt i 128) refl
    where
      low : f (of_z w128 a) (of_z w128 b) < 2 ^ 128
      low = small (of_z w128 a) (of_z w128 b) (code_small a fa) (code_small b fb)

      beyond : 128 ≤ i → int_bit (to_z w128 (f (of_z w128 a) (of_z w128 b))) i ≡ g (int_bit a i) (int_bit b i)
      beyond far =
          let later : 127 ≤ i = omega arith in
          outside (to_z w128 (f (of_z w128 a) (of_z w128 b))) i (sfits_to_z (record { fits = low })) later
          ∙ within a b 127 fa fb (omega arith)
          ∙ sym (λ j. g (outside a i fa later j) (outside b i fb later j))

      split : (t : Bool) → nat_lt i 128 ≡ t → int_bit (to_z w128 (f (of_z w128 a) (of_z w128 b))) i ≡ g (int_bit a i) (int_bit b i)
      split true near = within a b i fa fb (ltb-true i 128 near)
      split false far = beyond (ltb-false i 128 far)

pub and_bits : (a b : ℤ) (i : ℕ) → FitsSigned w128 a → FitsSigned w128 b → int_bit (int_bit_and w128 a b) i ≡ min (int_bit a i) (int_bit b i)
and_bits = all_bits bit_and min (and_lt 128) bit_at_and

pub or_bits : (a b : ℤ) (i : ℕ) → FitsSigned w128 a → FitsSigned w128 b → int_bit (int_bit_or w128 a b) i ≡ max (int_bit a i) (int_bit b i)
or_bits = all_bits bit_or max (or_lt 128) bit_at_or

pub xor_bits : (a b : ℤ) (i : ℕ) → FitsSigned w128 a → FitsSigned w128 b → int_bit (int_bit_xor w128 a b) i ≡ (int_bit a i + int_bit b i) % 2
xor_bits = all_bits bit_xor (λ x y. (x + y) % 2) (xor_lt 128) bit_at_xor

-- ---- `~`

complement_below : (n : ℕ) → complement (pos n) ≡ negsuc n
complement_below n = omega (arith, ints)

complement_above : (n : ℕ) → complement (negsuc n) ≡ pos n
complement_above n = omega (arith, ints)

pub turned_bits : (a : ℤ) (i : ℕ) → int_bit (complement a) i ≡ 1 - int_bit a i
turned_bits (pos n) i = ap (λ (z : ℤ). int_bit z i) (complement_below n) ∙ opposite n i
turned_bits (negsuc n) i = ap (λ (z : ℤ). int_bit z i) (complement_above n) ∙ omega (arith, opposite n i)
