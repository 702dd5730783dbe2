-- What the recursions over plain values give at a tuple.
use Rattle.std.proofs.Common.{◌≡◌, ℕ, suc, ◌+◌, max, sum, fold, map, length, List, [], ◌∷◌, Bool, true, false, ◌&&◌, refl, ◌∙◌, sym, ap, subst}
use denote.Hole.Carrier
use Rattle.rp_base.specs.declared.plain.Plain.{Plain, roll-Plain}
use Rattle.rp_base.specs.declared.plain.Plain.TheOpen.{Plain-F}
use Rattle.rp_base.specs.declared.plain.Plain.TheVariants as plain
use Rattle.rp_base.specs.declared.plain.Plain.TheFolds.{family, steps, map-Plain, fold-Plain, fold-roll-Plain, ind-Plain}
use Rattle.rp_base.specs.declared.plain.Plain.TheBlock.{lays-Plain, seen-the_row-Plain-0}
use Rattle.rp_base.specs.PlainValues.{look, gather, weight_step, plain_weight, depth_step, plain_depth, equal_step, equal_to, tests_all, equal_items}

pub look_tuple : (xs : List Plain) → look (plain.Tuple xs) ≡ Plain-F.Tuple xs
look_tuple xs = ap (λ (ys : List Plain). Plain-F.Tuple ys) (seen-the_row-Plain-0 xs)

pub gather_tuple : (A : Type 0) (step : Plain-F A → A) (xs : List Plain) → gather A step (plain.Tuple xs) ≡ step (Plain-F.Tuple (map (gather A step) xs))
gather_tuple A step xs = lays-Plain (family A) (steps A step) (plain.Tuple xs) ∙ ap (λ (ys : List Plain). step (Plain-F.Tuple (map (gather A step) ys))) (seen-the_row-Plain-0 xs)

-- at any level
pub gather_roll : (A : Type 0) (step : Plain-F A → A) (x : Plain-F Plain) → gather A step (roll-Plain x) ≡ step (map-Plain Plain A (gather A step) x)
unfolding roll-Plain Carrier.roll
gather_roll A step Plain-F.None = refl
gather_roll A step (Plain-F.Bool b) = refl
gather_roll A step (Plain-F.Int n) = refl
gather_roll A step (Plain-F.Text t) = refl
gather_roll A step (Plain-F.Bytes b) = refl
gather_roll A step Plain-F.NotImpl = refl
gather_roll A step Plain-F.Ellipsis = refl
gather_roll A step (Plain-F.Tuple xs) = gather_tuple A step xs

pub look_roll : (x : Plain-F Plain) → look (roll-Plain x) ≡ x
unfolding roll-Plain Carrier.roll
look_roll Plain-F.None = refl
look_roll (Plain-F.Bool b) = refl
look_roll (Plain-F.Int n) = refl
look_roll (Plain-F.Text t) = refl
look_roll (Plain-F.Bytes b) = refl
look_roll Plain-F.NotImpl = refl
look_roll Plain-F.Ellipsis = refl
look_roll (Plain-F.Tuple xs) = look_tuple xs

-- the recursion is the fold
abbrev Agrees : (A : Type 0) → (Plain-F A → A) → Plain → Type 0
Agrees A step p = gather A step p ≡ fold-Plain A step p

items_agree : (A : Type 0) (step : Plain-F A → A) (ys : List ((p : Plain) × Agrees A step p)) → map (gather A step) (map (λ e. e.0) ys) ≡ map (fold-Plain A step) (map (λ e. e.0) ys)
items_agree A step [] = refl
items_agree A step (y ∷ ys) = λ i. y.1 i ∷ items_agree A step ys i

layer_agrees : (A : Type 0) (step : Plain-F A → A) (y : Plain-F ((p : Plain) × Agrees A step p))
    → map-Plain Plain A (gather A step) (map-Plain ((p : Plain) × Agrees A step p) Plain (λ e. e.0) y) ≡ map-Plain Plain A (fold-Plain A step) (map-Plain ((p : Plain) × Agrees A step p) Plain (λ e. e.0) y)
layer_agrees A step (Plain-F.Tuple ys) = ap (λ (zs : List A). Plain-F.Tuple zs) (items_agree A step ys)
layer_agrees A step Plain-F.None = refl
layer_agrees A step (Plain-F.Bool b) = refl
layer_agrees A step (Plain-F.Int n) = refl
layer_agrees A step (Plain-F.Text t) = refl
layer_agrees A step (Plain-F.Bytes b) = refl
layer_agrees A step Plain-F.NotImpl = refl
layer_agrees A step Plain-F.Ellipsis = refl

pub gather_is_fold : (A : Type 0) (step : Plain-F A → A) (p : Plain) → gather A step p ≡ fold-Plain A step p
gather_is_fold A step = ind-Plain (Agrees A step) (λ x y is. subst (λ z. Agrees A step (roll-Plain z)) is (at_layer y))
  where
    at_layer : (y : Plain-F ((p : Plain) × Agrees A step p)) → Agrees A step (roll-Plain (map-Plain ((p : Plain) × Agrees A step p) Plain (λ e. e.0) y))
    at_layer y =
        let x : Plain-F Plain = map-Plain ((p : Plain) × Agrees A step p) Plain (λ e. e.0) y in
        gather_roll A step x ∙ ap step (layer_agrees A step y) ∙ sym (fold-roll-Plain A step x)

pub weight_tuple : (xs : List Plain) → plain_weight (plain.Tuple xs) ≡ 1 + sum (map plain_weight xs)
unfolding plain_weight
weight_tuple xs = gather_tuple ℕ weight_step xs

pub depth_tuple : (xs : List Plain) → plain_depth (plain.Tuple xs) ≡ 1 + fold max 0 (map plain_depth xs)
unfolding plain_depth
depth_tuple xs = gather_tuple ℕ depth_step xs

pub equal_tuples : (xs ys : List Plain) → equal_to (plain.Tuple xs) (plain.Tuple ys) ≡ equal_items xs ys
unfolding equal_to
equal_tuples xs ys = ap (λ (f : Plain → Bool). f (plain.Tuple ys)) (gather_tuple (Plain → Bool) equal_step xs) ∙ ap (λ (zs : List Plain). tests_all (map equal_to xs) zs) (seen-the_row-Plain-0 ys)

pub lengths_differ : (xs ys : List Plain) → (length xs ≡ length ys → ⊥) → false ≡ equal_items xs ys
lengths_differ [] [] h = absurd (h refl)
lengths_differ [] (y ∷ ys) h = refl
lengths_differ (x ∷ xs) [] h = refl
lengths_differ (x ∷ xs) (y ∷ ys) h = behind (equal_to x y) (equal_items xs ys) (lengths_differ xs ys (λ e. h (ap suc e)))
  where
    behind : (b c : Bool) → false ≡ c → false ≡ b && c
    behind true c e = e
    behind false c e = refl
