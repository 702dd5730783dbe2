-- What the order gives at two tuples.
use Rattle.std.proofs.Common.{◌≡◌, List, [], ◌∷◌, map, Option, Ordering, refl, ◌∙◌, ap, if◌then◌else◌}
use Rattle.rp_base.specs.declared.plain.Plain.{Plain}
use Rattle.rp_base.specs.declared.plain.Plain.TheOpen.{Plain-F}
use Rattle.rp_base.specs.declared.plain.Plain.TheVariants as plain
use Rattle.rp_base.specs.PlainValues.{look, gather, equal_to}
use Rattle.rp_base.specs.PlainLaws.{gather_tuple, look_tuple}
use Rattle.py_plain.specs.Comparing.{first_unequal, order_at, order_step, order_of, items_order}

abbrev Orders : Type 0
Orders = Plain → Plain → Option Ordering

first_is : (xs ys : List Plain) → first_unequal (map (gather Orders order_step) xs) xs ys ≡ items_order xs ys
unfolding order_of
first_is [] [] = refl
first_is [] (y ∷ ys) = refl
first_is (x ∷ xs) [] = refl
first_is (x ∷ xs) (y ∷ ys) = ap (λ (o : Option Ordering). if equal_to x y then o else gather Orders order_step x x y) (first_is xs ys)

pub order_tuples : (xs ys : List Plain) → order_of (plain.Tuple xs) (plain.Tuple ys) ≡ items_order xs ys
unfolding order_of
order_tuples xs ys =
    ap (λ (f : Orders). f (plain.Tuple xs) (plain.Tuple ys)) (gather_tuple Orders order_step xs)
    ∙ ap (λ (l : Plain-F Plain). order_at (Plain-F.Tuple (map (gather Orders order_step) xs)) l (look (plain.Tuple ys))) (look_tuple xs)
    ∙ ap (λ (l : Plain-F Plain). order_at (Plain-F.Tuple (map (gather Orders order_step) xs)) (Plain-F.Tuple xs) l) (look_tuple ys)
    ∙ first_is xs ys
