-- Quotients rounded down: they and what they leave are the only numbers of the division law, and how they come from the quotients whose remainder is never below 0.
use Rattle.std.proofs.Common.{◌≡◌, ◌≢◌, ℕ, zero, suc, ◌+◌, ◌-◌, ◌*◌, ◌/◌, ◌%◌, ◌<◌, ℤ, pos, negsuc, neg_ℤ, ◌+ℤ◌, ◌-ℤ◌, ◌*ℤ◌, ◌<ℤ◌, ◌≤ℤ◌, refl, sym, ap, ◌∙◌, arith}
use Rattle.std.specs.Int.{int_div_euclid, int_rem_euclid}
use Rattle.std.proofs.lemmas.Int.{ints}
use Rattle.std.proofs.Math.Nat.{div-eq_of_lt-le, div-add-mod', mod-lt}
use Rattle.py_ints.specs.Arithmetic.{floor_div, floor_mod, IsRemainderOf}

-- ---- natural numbers

pub one_quotient : (q n r m : ℕ) → q * n + r ≡ m → r < n → m / n ≡ q
one_quotient q n r m e h = div-eq_of_lt-le n (omega arith) (omega arith)

pub one_remainder : (q n r m : ℕ) → q * n + r ≡ m → r < n → m % n ≡ r
one_remainder q n r m e h =
    let whole : m / n * n ≡ q * n = ap (λ (x : ℕ). x * n) (one_quotient q n r m e h) in
    omega (arith, div-add-mod' m n)

pub rest_below : (a d : ℕ) → a % suc d < suc d
rest_below a d = mod-lt a (omega arith)

-- ---- the division law

pub law : (a b : ℤ) → b ≢ pos 0 → floor_div a b *ℤ b +ℤ floor_mod a b ≡ a
law (pos a) (pos b) some = omega (arith, ints, div-add-mod' a b)
law (negsuc a) (pos zero) some = absurd (some refl)
law (negsuc a) (pos (suc b)) some = omega (arith, ints, div-add-mod' a (suc b), rest_below a b)
law (pos zero) (negsuc b) some = omega (arith, ints, div-add-mod' 0 (suc b))
law (pos (suc a)) (negsuc b) some = omega (arith, ints, div-add-mod' a (suc b), rest_below a b)
law (negsuc a) (negsuc b) some = omega (arith, ints, div-add-mod' (suc a) (suc b), rest_below (suc a) b)

pub range : (a b : ℤ) → b ≢ pos 0 → IsRemainderOf b (floor_mod a b)
range a (pos zero) some = absurd (some refl)
range (pos a) (pos (suc b)) some = (omega (arith, ints), omega (arith, ints, rest_below a b))
range (negsuc a) (pos (suc b)) some = (omega (arith, ints), omega (arith, ints))
range (pos zero) (negsuc b) some = (omega (arith, ints, rest_below 0 b), omega (arith, ints))
range (pos (suc a)) (negsuc b) some = (omega (arith, ints), omega (arith, ints))
range (negsuc a) (negsuc b) some = (omega (arith, ints, rest_below (suc a) b), omega (arith, ints))

-- no other quotient and remainder meet it
above : (q r a : ℤ) (n : ℕ) → q *ℤ pos n +ℤ r ≡ a → pos 0 ≤ℤ r → r <ℤ pos n → (q ≡ int_div_euclid a (pos n)) × (r ≡ int_rem_euclid a (pos n))
above (pos q) (pos r) (pos a) n e low high =
    let sum : q * n + r ≡ a = omega (arith, ints) in
    let small : r < n = omega (arith, ints) in
    (ap pos (sym (one_quotient q n r a sum small)), ap pos (sym (one_remainder q n r a sum small)))
above (negsuc q) (pos r) (negsuc a) n e low high =
    let small : r < n = omega (arith, ints) in
    let sum : q * n + (n - 1 - r) ≡ a = omega (arith, ints) in
    (ap negsuc (sym (one_quotient q n (n - 1 - r) a sum (omega arith))), ap pos (omega (arith, one_remainder q n (n - 1 - r) a sum (omega arith))))
above (pos q) (pos r) (negsuc a) n e low high = absurd (omega (arith, ints))
above (negsuc q) (pos r) (pos a) n e low high = absurd (omega (arith, ints))
above q (negsuc r) a n e low high = absurd (omega (arith, ints))

turned : (q r a : ℤ) (d : ℕ) → q *ℤ negsuc d +ℤ r ≡ a → q *ℤ pos (suc d) +ℤ neg_ℤ r ≡ neg_ℤ a
turned q r a d e = omega (arith, ints)

twice : (r : ℤ) → neg_ℤ (neg_ℤ r) ≡ r
twice r = omega (arith, ints)

pub only : (a b q r : ℤ) → q *ℤ b +ℤ r ≡ a → IsRemainderOf b r → (q ≡ floor_div a b) × (r ≡ floor_mod a b)
only a (pos n) q r e h = above q r a n e h.0 h.1
only a (negsuc d) q r e h =
    let low = h.0 in
    let high = h.1 in
    let is = above q (neg_ℤ r) (neg_ℤ a) (suc d) (turned q r a d e) (omega (arith, ints)) (omega (arith, ints)) in
    (is.0, sym (twice r) ∙ ap neg_ℤ is.1)

-- ---- from the quotient whose remainder is never below 0, by a divisor below 0

both_below : (q d r a : ℕ) → q * suc d + r ≡ a → neg_ℤ (pos q) *ℤ negsuc d +ℤ pos r ≡ pos a
both_below zero d r a e = omega (arith, ints)
both_below (suc q) d r a e = omega (arith, ints)

euclid : (a : ℤ) (d : ℕ) → int_div_euclid a (negsuc d) *ℤ negsuc d +ℤ int_rem_euclid a (negsuc d) ≡ a
euclid (pos a) d = both_below (a / suc d) d (a % suc d) a (div-add-mod' a (suc d))
euclid (negsuc a) d = omega (arith, ints, div-add-mod' a (suc d), rest_below a d)

euclid_low : (a : ℤ) (d : ℕ) → pos 0 ≤ℤ int_rem_euclid a (negsuc d)
euclid_low (pos a) d = omega (arith, ints)
euclid_low (negsuc a) d = omega (arith, ints)

euclid_high : (a : ℤ) (d : ℕ) → int_rem_euclid a (negsuc d) <ℤ pos (suc d)
euclid_high (pos a) d = omega (arith, ints, rest_below a d)
euclid_high (negsuc a) d = omega (arith, ints)

one_less : (q p r : ℤ) (d : ℕ) → q -ℤ pos 1 ≡ p → (q -ℤ pos 1) *ℤ negsuc d +ℤ (r +ℤ negsuc d) ≡ q *ℤ negsuc d +ℤ r
one_less (pos zero) (negsuc zero) r d e = ap (λ (z : ℤ). z *ℤ negsuc d +ℤ (r +ℤ negsuc d)) e ∙ omega (arith, ints)
one_less (pos (suc q)) (pos p) r d e = let is : p ≡ q = omega (arith, ints) in ap (λ (z : ℤ). z *ℤ negsuc d +ℤ (r +ℤ negsuc d)) (e ∙ ap pos is) ∙ omega (arith, ints)
one_less (negsuc q) (negsuc p) r d e = let is : p ≡ suc q = omega (arith, ints) in ap (λ (z : ℤ). z *ℤ negsuc d +ℤ (r +ℤ negsuc d)) (e ∙ ap negsuc is) ∙ omega (arith, ints)
one_less (pos zero) (pos p) r d e = absurd (omega (arith, ints))
one_less (pos zero) (negsuc (suc p)) r d e = absurd (omega (arith, ints))
one_less (pos (suc q)) (negsuc p) r d e = absurd (omega (arith, ints))
one_less (negsuc q) (pos p) r d e = absurd (omega (arith, ints))

pub down_whole : (a : ℤ) (d : ℕ) → int_rem_euclid a (negsuc d) ≡ pos 0 → (int_div_euclid a (negsuc d) ≡ floor_div a (negsuc d)) × (int_rem_euclid a (negsuc d) ≡ floor_mod a (negsuc d))
down_whole a d e = only a (negsuc d) (int_div_euclid a (negsuc d)) (int_rem_euclid a (negsuc d)) (euclid a d) (omega (arith, ints), omega (arith, ints))

pub down_part : (a : ℤ) (d : ℕ) → int_rem_euclid a (negsuc d) ≢ pos 0 → (int_div_euclid a (negsuc d) -ℤ pos 1 ≡ floor_div a (negsuc d)) × (int_rem_euclid a (negsuc d) +ℤ negsuc d ≡ floor_mod a (negsuc d))
down_part a d e =
    let low = euclid_low a d in
    let high = euclid_high a d in
    only a (negsuc d) (int_div_euclid a (negsuc d) -ℤ pos 1) (int_rem_euclid a (negsuc d) +ℤ negsuc d) (one_less (int_div_euclid a (negsuc d)) (int_div_euclid a (negsuc d) -ℤ pos 1) (int_rem_euclid a (negsuc d)) d refl ∙ euclid a d) (omega (arith, ints), upper (int_rem_euclid a (negsuc d)) d high)
  where
    upper : (r : ℤ) (d : ℕ) → r <ℤ pos (suc d) → (r +ℤ negsuc d) ≤ℤ pos 0
    upper r d h = omega (arith, ints)
