-- The equality of plain values is an equivalence.
use Rattle.std.proofs.lemmas.Bool.{and_parts, and_from}
use Rattle.std.proofs.Common.{◌≡◌, Bool, true, false, ◌&&◌, List, [], ◌∷◌, map, refl, sym, ◌∙◌, ap, subst}
use Rattle.std.proofs.lemmas.Cmp.{int_eq_equiv, nat_list_eq_equiv}
use Rattle.std.specs.Cmp.{IsPartialEquivalence, IsEquivalence, equiv}
use Rattle.rp_base.specs.declared.plain.Plain.{Plain, out-Plain, roll-Plain}
use Rattle.rp_base.specs.declared.plain.Plain.TheOpen.{Plain-F}
use Rattle.rp_base.specs.declared.plain.Plain.TheViews.{roll-out-Plain}
use Rattle.rp_base.specs.declared.plain.Plain.TheFolds.{ind-Plain, map-Plain}
use Rattle.rp_base.specs.PlainValues.{as_int, tests_all, compare_layers, equal_step, equal_to}
use Rattle.rp_base.specs.PlainLaws.{gather_roll, look_roll}

-- at two layers
pub equal_layers : (x z : Plain-F Plain) → equal_to (roll-Plain x) (roll-Plain z) ≡ compare_layers (map-Plain Plain (Plain → Bool) equal_to x) z
unfolding equal_to
equal_layers x z = ap (λ (f : Plain → Bool). f (roll-Plain z)) (gather_roll (Plain → Bool) equal_step x) ∙ ap (compare_layers (map-Plain Plain (Plain → Bool) equal_to x)) (look_roll z)

abbrev plain_layer : (P : Plain → Type 0) → Plain-F ((p : Plain) × P p) → Plain-F Plain
plain_layer P y = map-Plain ((p : Plain) × P p) Plain (λ e. e.0) y

-- each value equals itself
abbrev Itself : Plain → Type 0
Itself p = equal_to p p ≡ true

items_itself : (ys : List ((p : Plain) × Itself p)) → tests_all (map equal_to (map (λ e. e.0) ys)) (map (λ e. e.0) ys) ≡ true
items_itself [] = refl
items_itself (y ∷ ys) = λ i. y.1 i && items_itself ys i

layer_itself : (y : Plain-F ((p : Plain) × Itself p)) → compare_layers (map-Plain Plain (Plain → Bool) equal_to (plain_layer Itself y)) (plain_layer Itself y) ≡ true
layer_itself Plain-F.None = refl
layer_itself (Plain-F.Bool b) = int_eq_equiv.refl (as_int b)
layer_itself (Plain-F.Int n) = int_eq_equiv.refl n
layer_itself (Plain-F.Text t) = nat_list_eq_equiv.refl t
layer_itself (Plain-F.Bytes b) = nat_list_eq_equiv.refl b
layer_itself Plain-F.NotImpl = refl
layer_itself Plain-F.Ellipsis = refl
layer_itself (Plain-F.Tuple ys) = items_itself ys

pub equal_itself : (p : Plain) → equal_to p p ≡ true
equal_itself = ind-Plain Itself (λ x y is. subst (λ z. Itself (roll-Plain z)) is (equal_layers (plain_layer Itself y) (plain_layer Itself y) ∙ layer_itself y))

-- both ways round
abbrev Turns : Plain → Type 0
Turns p = (q : Plain) → equal_to p q ≡ equal_to q p

items_turn : (ys : List ((p : Plain) × Turns p)) (zs : List Plain) → tests_all (map equal_to (map (λ e. e.0) ys)) zs ≡ tests_all (map equal_to zs) (map (λ e. e.0) ys)
items_turn [] [] = refl
items_turn [] (z ∷ zs) = refl
items_turn (y ∷ ys) [] = refl
items_turn (y ∷ ys) (z ∷ zs) = λ i. y.1 z i && items_turn ys zs i

layer_turns : (y : Plain-F ((p : Plain) × Turns p)) (z : Plain-F Plain)
    → compare_layers (map-Plain Plain (Plain → Bool) equal_to (plain_layer Turns y)) z ≡ compare_layers (map-Plain Plain (Plain → Bool) equal_to z) (plain_layer Turns y)
layer_turns (Plain-F.Bool x) (Plain-F.Bool y) = int_eq_equiv.symm (as_int x) (as_int y)
layer_turns (Plain-F.Bool x) (Plain-F.Int y) = int_eq_equiv.symm (as_int x) y
layer_turns (Plain-F.Int x) (Plain-F.Bool y) = int_eq_equiv.symm x (as_int y)
layer_turns (Plain-F.Int x) (Plain-F.Int y) = int_eq_equiv.symm x y
layer_turns (Plain-F.Text x) (Plain-F.Text y) = nat_list_eq_equiv.symm x y
layer_turns (Plain-F.Bytes x) (Plain-F.Bytes y) = nat_list_eq_equiv.symm x y
layer_turns (Plain-F.Tuple ys) (Plain-F.Tuple zs) = items_turn ys zs
layer_turns Plain-F.None Plain-F.None = refl
layer_turns Plain-F.NotImpl Plain-F.NotImpl = refl
layer_turns Plain-F.Ellipsis Plain-F.Ellipsis = refl
layer_turns _ _ = refl

turns_at : (y : Plain-F ((p : Plain) × Turns p)) → Turns (roll-Plain (plain_layer Turns y))
turns_at y q =
    let at_layer : equal_to (roll-Plain (plain_layer Turns y)) (roll-Plain (out-Plain q)) ≡ equal_to (roll-Plain (out-Plain q)) (roll-Plain (plain_layer Turns y)) =
    equal_layers (plain_layer Turns y) (out-Plain q) ∙ layer_turns y (out-Plain q) ∙ sym (equal_layers (out-Plain q) (plain_layer Turns y)) in
    subst (λ (r : Plain). equal_to (roll-Plain (plain_layer Turns y)) r ≡ equal_to r (roll-Plain (plain_layer Turns y))) (roll-out-Plain q) at_layer

pub equal_turns : (p q : Plain) → equal_to p q ≡ equal_to q p
equal_turns = ind-Plain Turns (λ x y is. subst (λ z. Turns (roll-Plain z)) is (turns_at y))

-- along a chain
abbrev Chains : Plain → Type 0
Chains p = (q r : Plain) → equal_to p q ≡ true → equal_to q r ≡ true → equal_to p r ≡ true

items_chain : (xs : List ((p : Plain) × Chains p)) (ys zs : List Plain)
    → tests_all (map equal_to (map (λ e. e.0) xs)) ys ≡ true → tests_all (map equal_to ys) zs ≡ true → tests_all (map equal_to (map (λ e. e.0) xs)) zs ≡ true
items_chain [] [] [] h k = refl
items_chain [] [] (z ∷ zs) h k = cc
items_chain [] (y ∷ ys) zs h k = cc
items_chain (x ∷ xs) [] zs h k = cc
items_chain (x ∷ xs) (y ∷ ys) [] h k = cc
items_chain (x ∷ xs) (y ∷ ys) (z ∷ zs) h k =
    let a = and_parts (equal_to x.0 y) (tests_all (map equal_to (map (λ e. e.0) xs)) ys) h in
    let b = and_parts (equal_to y z) (tests_all (map equal_to ys) zs) k in
    and_from (equal_to x.0 z) (tests_all (map equal_to (map (λ e. e.0) xs)) zs) (x.1 y z a.0 b.0) (items_chain xs ys zs a.1 b.1)

layer_chains : (x : Plain-F ((p : Plain) × Chains p)) (y z : Plain-F Plain)
    → compare_layers (map-Plain Plain (Plain → Bool) equal_to (plain_layer Chains x)) y ≡ true → compare_layers (map-Plain Plain (Plain → Bool) equal_to y) z ≡ true
    → compare_layers (map-Plain Plain (Plain → Bool) equal_to (plain_layer Chains x)) z ≡ true
layer_chains Plain-F.None Plain-F.None Plain-F.None h k = refl
layer_chains Plain-F.NotImpl Plain-F.NotImpl Plain-F.NotImpl h k = refl
layer_chains Plain-F.Ellipsis Plain-F.Ellipsis Plain-F.Ellipsis h k = refl
layer_chains (Plain-F.Bool x) (Plain-F.Bool y) (Plain-F.Bool z) h k = int_eq_equiv.congr (as_int x) (as_int y) (as_int z) h ∙ k
layer_chains (Plain-F.Bool x) (Plain-F.Bool y) (Plain-F.Int z) h k = int_eq_equiv.congr (as_int x) (as_int y) z h ∙ k
layer_chains (Plain-F.Bool x) (Plain-F.Int y) (Plain-F.Bool z) h k = int_eq_equiv.congr (as_int x) y (as_int z) h ∙ k
layer_chains (Plain-F.Bool x) (Plain-F.Int y) (Plain-F.Int z) h k = int_eq_equiv.congr (as_int x) y z h ∙ k
layer_chains (Plain-F.Int x) (Plain-F.Bool y) (Plain-F.Bool z) h k = int_eq_equiv.congr x (as_int y) (as_int z) h ∙ k
layer_chains (Plain-F.Int x) (Plain-F.Bool y) (Plain-F.Int z) h k = int_eq_equiv.congr x (as_int y) z h ∙ k
layer_chains (Plain-F.Int x) (Plain-F.Int y) (Plain-F.Bool z) h k = int_eq_equiv.congr x y (as_int z) h ∙ k
layer_chains (Plain-F.Int x) (Plain-F.Int y) (Plain-F.Int z) h k = int_eq_equiv.congr x y z h ∙ k
layer_chains (Plain-F.Text x) (Plain-F.Text y) (Plain-F.Text z) h k = nat_list_eq_equiv.congr x y z h ∙ k
layer_chains (Plain-F.Bytes x) (Plain-F.Bytes y) (Plain-F.Bytes z) h k = nat_list_eq_equiv.congr x y z h ∙ k
layer_chains (Plain-F.Tuple xs) (Plain-F.Tuple ys) (Plain-F.Tuple zs) h k = items_chain xs ys zs h k
layer_chains _ _ _ h k = cc

chains_at : (x : Plain-F ((p : Plain) × Chains p)) → Chains (roll-Plain (plain_layer Chains x))
chains_at x q r =
    let P : Plain → Plain → Type 0 = λ s t. equal_to (roll-Plain (plain_layer Chains x)) s ≡ true → equal_to s t ≡ true → equal_to (roll-Plain (plain_layer Chains x)) t ≡ true in
    let at_layers : P (roll-Plain (out-Plain q)) (roll-Plain (out-Plain r)) =
    λ h k. equal_layers (plain_layer Chains x) (out-Plain r) ∙ layer_chains x (out-Plain q) (out-Plain r)
    (sym (equal_layers (plain_layer Chains x) (out-Plain q)) ∙ h) (sym (equal_layers (out-Plain q) (out-Plain r)) ∙ k) in
    let second : P q (roll-Plain (out-Plain r)) = subst (λ (s : Plain). P s (roll-Plain (out-Plain r))) (roll-out-Plain q) at_layers in
    subst (λ (t : Plain). P q t) (roll-out-Plain r) second

pub equal_chains : (p q r : Plain) → equal_to p q ≡ true → equal_to q r ≡ true → equal_to p r ≡ true
equal_chains = ind-Plain Chains (λ x y is. subst (λ z. Chains (roll-Plain z)) is (chains_at y))

pub equal_partial : IsPartialEquivalence equal_to
equal_partial = record { symm = equal_turns; trans = equal_chains }

pub equal_equivalence : IsEquivalence equal_to
equal_equivalence = equiv equal_partial equal_itself
