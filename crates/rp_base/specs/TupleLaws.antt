-- The tuple that is made weighs as its items say, and is as deep.
use Rattle.std.proofs.Common.{◌≡◌, ℕ, ◌+◌, max, sum, fold, map, List, [], ◌∷◌, Option, Some, None, option_map, refl, sym, ◌∙◌, ap, subst}
use Rattle.rp_base.specs.declared.plain.Plain.{Plain}
use Rattle.rp_base.specs.declared.plain.Plain.TheVariants as plain
use Rattle.rp_base.specs.declared.value.Value.{Value, roll-Value}
use Rattle.rp_base.specs.declared.value.Value.TheOpen.{Value-F}
use Rattle.rp_base.specs.declared.value.Value.TheFolds.{ind-Value, map-Value}
use Rattle.rp_base.specs.PlainValues.{plain_weight, plain_depth}
use Rattle.rp_base.specs.PlainLaws.{weight_tuple, depth_tuple}
use Rattle.rp_base.specs.Values.{value_weight_step, weight_of, value_depth_step, depth_of, all_there, plain_step, plain_of, plains_of, choose, joined}
use Rattle.rp_base.specs.ValueLaws.{gather_value_roll, value_weight_tuple, value_depth_tuple}

-- a measure of plain values and one of values agree at a value
abbrev Fits : (Plain → ℕ) → (Value → ℕ) → Value → Type 0
Fits f g v = (p : Plain) → plain_of v ≡ Some p → f p ≡ g v

first_there : (o : Option Plain) (os : List (Option Plain)) (p : Plain) (ps : List Plain) → all_there (o ∷ os) ≡ Some (p ∷ ps) → (o ≡ Some p) × (all_there os ≡ Some ps)
first_there None os p ps h = cc
first_there (Some q) os p ps h = split (all_there os) h
  where
    split : (r : Option (List Plain)) → option_map (λ qs. q ∷ qs) r ≡ Some (p ∷ ps) → (Some q ≡ Some p) × (r ≡ Some ps)
    split None h = cc
    split (Some qs) h = (cc, cc)

none_there : (o : Option Plain) (os : List (Option Plain)) → all_there (o ∷ os) ≡ Some [] → ⊥
none_there None os h = cc
none_there (Some q) os h = split (all_there os) h
  where
    split : (r : Option (List Plain)) → option_map (λ qs. q ∷ qs) r ≡ Some [] → ⊥
    split None h = cc
    split (Some qs) h = cc

items_fit : (f : Plain → ℕ) (g : Value → ℕ) (ys : List ((v : Value) × Fits f g v)) (ps : List Plain) → all_there (map plain_of (map (λ e. e.0) ys)) ≡ Some ps → map f ps ≡ map g (map (λ e. e.0) ys)
items_fit f g [] [] h = refl
items_fit f g [] (p ∷ ps) h = cc
items_fit f g (y ∷ ys) [] h = absurd (none_there (plain_of y.0) (map plain_of (map (λ e. e.0) ys)) h)
items_fit f g (y ∷ ys) (p ∷ ps) h =
    let both = first_there (plain_of y.0) (map plain_of (map (λ e. e.0) ys)) p ps h in
    λ i. y.1 p both.0 i ∷ items_fit f g ys ps both.1 i

abbrev value_layer : (P : Value → Type 0) → Value-F ((v : Value) × P v) → Value-F Value
value_layer P y = map-Value ((v : Value) × P v) Value (λ e. e.0) y

plain_at : (x : Value-F Value) → plain_of (roll-Value x) ≡ plain_step (map-Value Value (Option Plain) plain_of x)
unfolding plain_of
plain_at x = gather_value_roll (Option Plain) plain_step x

module _ (f : Plain → ℕ) (g : Value → ℕ) (join : List ℕ → ℕ) (below : (xs : List Plain) → f (plain.Tuple xs) ≡ join (map f xs)) where
  tuple_fits : (ys : List ((v : Value) × Fits f g v)) (p : Plain) (o : Option (List Plain)) → all_there (map plain_of (map (λ e. e.0) ys)) ≡ o → option_map plain.Tuple o ≡ Some p → f p ≡ join (map g (map (λ e. e.0) ys))
  tuple_fits ys p None e h = cc
  tuple_fits ys p (Some ps) e h =
      let made : plain.Tuple ps ≡ p = cc in
      ap f (sym made) ∙ below ps ∙ ap join (items_fit f g ys ps e)

weight_at : (x : Value-F Value) → weight_of (roll-Value x) ≡ value_weight_step (map-Value Value ℕ weight_of x)
unfolding weight_of
weight_at x = gather_value_roll ℕ value_weight_step x

depth_at : (x : Value-F Value) → depth_of (roll-Value x) ≡ value_depth_step (map-Value Value ℕ depth_of x)
unfolding depth_of
depth_at x = gather_value_roll ℕ value_depth_step x

layer_weighs : (y : Value-F ((v : Value) × Fits plain_weight weight_of v)) (p : Plain)
    → plain_step (map-Value Value (Option Plain) plain_of (value_layer (Fits plain_weight weight_of) y)) ≡ Some p → plain_weight p ≡ value_weight_step (map-Value Value ℕ weight_of (value_layer (Fits plain_weight weight_of) y))
layer_weighs (Value-F.Plain q) p h = cc
layer_weighs (Value-F.Tuple ys) p h = tuple_fits plain_weight weight_of (λ ws. 1 + sum ws) weight_tuple ys p (all_there (map plain_of (map (λ e. e.0) ys))) refl h
layer_weighs (Value-F.Own c) p h = cc
layer_weighs (Value-F.Proxy id) p h = cc

layer_deep : (y : Value-F ((v : Value) × Fits plain_depth depth_of v)) (p : Plain)
    → plain_step (map-Value Value (Option Plain) plain_of (value_layer (Fits plain_depth depth_of) y)) ≡ Some p → plain_depth p ≡ value_depth_step (map-Value Value ℕ depth_of (value_layer (Fits plain_depth depth_of) y))
layer_deep (Value-F.Plain q) p h = cc
layer_deep (Value-F.Tuple ys) p h = tuple_fits plain_depth depth_of (λ ds. 1 + fold max 0 ds) depth_tuple ys p (all_there (map plain_of (map (λ e. e.0) ys))) refl h
layer_deep (Value-F.Own c) p h = cc
layer_deep (Value-F.Proxy id) p h = cc

-- the plain value that a value is weighs as much, and is as deep
pub plain_weighs : (v : Value) (p : Plain) → plain_of v ≡ Some p → plain_weight p ≡ weight_of v
plain_weighs = ind-Value (Fits plain_weight weight_of) (λ x y is. subst (λ z. Fits plain_weight weight_of (roll-Value z)) is (at_layer y))
  where
    at_layer : (y : Value-F ((v : Value) × Fits plain_weight weight_of v)) → Fits plain_weight weight_of (roll-Value (value_layer (Fits plain_weight weight_of) y))
    at_layer y p h = layer_weighs y p (sym (plain_at (value_layer (Fits plain_weight weight_of) y)) ∙ h) ∙ sym (weight_at (value_layer (Fits plain_weight weight_of) y))

pub plain_deep : (v : Value) (p : Plain) → plain_of v ≡ Some p → plain_depth p ≡ depth_of v
plain_deep = ind-Value (Fits plain_depth depth_of) (λ x y is. subst (λ z. Fits plain_depth depth_of (roll-Value z)) is (at_layer y))
  where
    at_layer : (y : Value-F ((v : Value) × Fits plain_depth depth_of v)) → Fits plain_depth depth_of (roll-Value (value_layer (Fits plain_depth depth_of) y))
    at_layer y p h = layer_deep y p (sym (plain_at (value_layer (Fits plain_depth depth_of) y)) ∙ h) ∙ sym (depth_at (value_layer (Fits plain_depth depth_of) y))

with_proofs : (f : Plain → ℕ) (g : Value → ℕ) → ((v : Value) → Fits f g v) → (vs : List Value) (ps : List Plain) → all_there (map plain_of vs) ≡ Some ps → map f ps ≡ map g vs
with_proofs f g fits [] [] h = refl
with_proofs f g fits [] (p ∷ ps) h = cc
with_proofs f g fits (v ∷ vs) [] h = absurd (none_there (plain_of v) (map plain_of vs) h)
with_proofs f g fits (v ∷ vs) (p ∷ ps) h =
    let both = first_there (plain_of v) (map plain_of vs) p ps h in
    λ i. fits v p both.0 i ∷ with_proofs f g fits vs ps both.1 i

pub joined_weighs : (vs : List Value) → weight_of (joined vs) ≡ 1 + sum (map weight_of vs)
unfolding weight_of
joined_weighs vs = split (plains_of vs) refl
  where
    split : (o : Option (List Plain)) → plains_of vs ≡ o → weight_of (choose o vs) ≡ 1 + sum (map weight_of vs)
    split (Some ps) e = weight_tuple ps ∙ ap (λ ws. 1 + sum ws) (with_proofs plain_weight weight_of plain_weighs vs ps e)
    split None e = value_weight_tuple vs

pub joined_deep : (vs : List Value) → depth_of (joined vs) ≡ 1 + fold max 0 (map depth_of vs)
unfolding depth_of
joined_deep vs = split (plains_of vs) refl
  where
    split : (o : Option (List Plain)) → plains_of vs ≡ o → depth_of (choose o vs) ≡ 1 + fold max 0 (map depth_of vs)
    split (Some ps) e = depth_tuple ps ∙ ap (λ ds. 1 + fold max 0 ds) (with_proofs plain_depth depth_of plain_deep vs ps e)
    split None e = value_depth_tuple vs
