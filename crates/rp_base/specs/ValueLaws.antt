-- What the recursions over values give at a tuple.
use Rattle.std.proofs.Common.{◌≡◌, ℕ, ◌+◌, max, sum, fold, map, List, [], ◌∷◌, Option, option_map, refl, sym, ◌∙◌, ap, subst}
use denote.Hole.Carrier
use Rattle.rp_base.specs.declared.plain.Plain.{Plain}
use Rattle.rp_base.specs.declared.plain.Plain.TheVariants as plain
use Rattle.rp_base.specs.declared.value.Value.{Value, roll-Value}
use Rattle.rp_base.specs.declared.value.Value.TheOpen.{Value-F}
use Rattle.rp_base.specs.declared.value.Value.TheVariants as value
use Rattle.rp_base.specs.declared.value.Value.TheFolds.{family, steps, map-Value, fold-Value, fold-roll-Value, ind-Value}
use Rattle.rp_base.specs.declared.value.Value.TheBlock.{lays-Value, seen-the_row-Value-0}
use Rattle.rp_base.specs.Values.{look_value, gather_value, value_weight_step, weight_of, value_depth_step, depth_of, plain_step, plain_of, plains_of}

pub look_value_tuple : (xs : List Value) → look_value (value.Tuple xs) ≡ Value-F.Tuple xs
look_value_tuple xs = ap (λ (ys : List Value). Value-F.Tuple ys) (seen-the_row-Value-0 xs)

pub gather_value_tuple : (A : Type 0) (step : Value-F A → A) (xs : List Value) → gather_value A step (value.Tuple xs) ≡ step (Value-F.Tuple (map (gather_value A step) xs))
gather_value_tuple A step xs = lays-Value (family A) (steps A step) (value.Tuple xs) ∙ ap (λ (ys : List Value). step (Value-F.Tuple (map (gather_value A step) ys))) (seen-the_row-Value-0 xs)

-- at any level
pub gather_value_roll : (A : Type 0) (step : Value-F A → A) (x : Value-F Value) → gather_value A step (roll-Value x) ≡ step (map-Value Value A (gather_value A step) x)
unfolding roll-Value Carrier.roll
gather_value_roll A step (Value-F.Plain p) = refl
gather_value_roll A step (Value-F.Own c) = refl
gather_value_roll A step (Value-F.Proxy id) = refl
gather_value_roll A step (Value-F.Tuple xs) = gather_value_tuple A step xs

pub look_value_roll : (x : Value-F Value) → look_value (roll-Value x) ≡ x
unfolding roll-Value Carrier.roll
look_value_roll (Value-F.Plain p) = refl
look_value_roll (Value-F.Own c) = refl
look_value_roll (Value-F.Proxy id) = refl
look_value_roll (Value-F.Tuple xs) = look_value_tuple xs

-- the recursion is the fold
abbrev Agrees : (A : Type 0) → (Value-F A → A) → Value → Type 0
Agrees A step v = gather_value A step v ≡ fold-Value A step v

items_agree : (A : Type 0) (step : Value-F A → A) (ys : List ((v : Value) × Agrees A step v)) → map (gather_value A step) (map (λ e. e.0) ys) ≡ map (fold-Value A step) (map (λ e. e.0) ys)
items_agree A step [] = refl
items_agree A step (y ∷ ys) = λ i. y.1 i ∷ items_agree A step ys i

layer_agrees : (A : Type 0) (step : Value-F A → A) (y : Value-F ((v : Value) × Agrees A step v))
    → map-Value Value A (gather_value A step) (map-Value ((v : Value) × Agrees A step v) Value (λ e. e.0) y) ≡ map-Value Value A (fold-Value A step) (map-Value ((v : Value) × Agrees A step v) Value (λ e. e.0) y)
layer_agrees A step (Value-F.Tuple ys) = ap (λ (zs : List A). Value-F.Tuple zs) (items_agree A step ys)
layer_agrees A step (Value-F.Plain p) = refl
layer_agrees A step (Value-F.Own c) = refl
layer_agrees A step (Value-F.Proxy id) = refl

pub gather_value_is_fold : (A : Type 0) (step : Value-F A → A) (v : Value) → gather_value A step v ≡ fold-Value A step v
gather_value_is_fold A step = ind-Value (Agrees A step) (λ x y is. subst (λ z. Agrees A step (roll-Value z)) is (at_layer y))
  where
    at_layer : (y : Value-F ((v : Value) × Agrees A step v)) → Agrees A step (roll-Value (map-Value ((v : Value) × Agrees A step v) Value (λ e. e.0) y))
    at_layer y =
        let x : Value-F Value = map-Value ((v : Value) × Agrees A step v) Value (λ e. e.0) y in
        gather_value_roll A step x ∙ ap step (layer_agrees A step y) ∙ sym (fold-roll-Value A step x)

pub value_weight_tuple : (xs : List Value) → weight_of (value.Tuple xs) ≡ 1 + sum (map weight_of xs)
unfolding weight_of
value_weight_tuple xs = gather_value_tuple ℕ value_weight_step xs

pub value_depth_tuple : (xs : List Value) → depth_of (value.Tuple xs) ≡ 1 + fold max 0 (map depth_of xs)
unfolding depth_of
value_depth_tuple xs = gather_value_tuple ℕ value_depth_step xs

pub plain_of_tuple : (xs : List Value) → plain_of (value.Tuple xs) ≡ option_map plain.Tuple (plains_of xs)
unfolding plain_of
plain_of_tuple xs = gather_value_tuple (Option Plain) plain_step xs
