-- How two tuples stand, as the code finds it.
use Rattle.std.proofs.Common.{◌≡◌, ℕ, zero, suc, ◌≤◌, min, List, [], ◌∷◌, length, drop, Option, Some, Ordering, Less, Greater, refl, sym, ◌∙◌, ap, arith}
use Rattle.std.proofs.lemmas.Bool.Decides.{nat_tests}
use Rattle.std.specs.Ordering.{nat_cmp}
use Rattle.rp_base.specs.declared.plain.Plain.{Plain}
use Rattle.rp_base.specs.declared.plain.Plain.TheVariants as plain
use Rattle.py_plain.specs.Comparing.{order_of, items_order}
use Rattle.py_plain.specs.OrderLaws.{order_tuples}

pub tuples_stand : (a b : Plain) (xs ys vs ws : List Plain) (r : Option Ordering)
    → a ≡ plain.Tuple xs → b ≡ plain.Tuple ys → vs ≡ xs → ws ≡ ys → r ≡ items_order vs ws → r ≡ order_of a b
tuples_stand a b xs ys vs ws r ea eb es et h =
    h ∙ (λ i. items_order (es i) (et i)) ∙ sym (order_tuples xs ys) ∙ sym (λ i. order_of (ea i) (eb i))

less : (n : ℕ) → Less ≡ nat_cmp 0 (suc n)
less n = grind (arith, nat_tests)

greater : (n : ℕ) → Greater ≡ nat_cmp (suc n) 0
greater n = grind (arith, nat_tests)

one_more : (m n : ℕ) → nat_cmp m n ≡ nat_cmp (suc m) (suc n)
one_more m n = grind (arith, nat_tests)

-- where one of them has ended
pub ended : (i : ℕ) (xs ys : List Plain) → i ≤ min (length xs) (length ys) → min (length xs) (length ys) ≤ i → Some (nat_cmp (length xs) (length ys)) ≡ items_order (drop i xs) (drop i ys)
ended zero [] [] h k = refl
ended zero [] (y ∷ ys) h k = ap Some (sym (less (length ys)))
ended zero (x ∷ xs) [] h k = ap Some (sym (greater (length xs)))
ended zero (x ∷ xs) (y ∷ ys) h k = absurd (omega arith)
ended (suc i) [] [] h k = absurd (omega arith)
ended (suc i) [] (y ∷ ys) h k = absurd (omega arith)
ended (suc i) (x ∷ xs) [] h k = absurd (omega arith)
ended (suc i) (x ∷ xs) (y ∷ ys) h k = ap Some (sym (one_more (length xs) (length ys))) ∙ ended i xs ys (omega arith) (omega arith)
