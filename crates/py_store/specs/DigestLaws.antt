-- Equal keys have equal digests.
use Rattle.std.proofs.lemmas.Bool.{and_parts}
use Rattle.std.specs.Cmp.{signed_Decides}
use Rattle.std.specs.Ordering.{int_eq}
use Rattle.std.specs.Cmp.Lexicographic.{bytes_decides}
use Rattle.std.proofs.Common.{◌≡◌, ℕ, ℤ, Bool, true, List, [], ◌∷◌, map, refl, sym, ◌∙◌, ap, subst}
use Rattle.rp_base.specs.declared.plain.Plain.{Plain, out-Plain, roll-Plain}
use Rattle.rp_base.specs.declared.plain.Plain.TheOpen.{Plain-F}
use Rattle.rp_base.specs.declared.plain.Plain.TheVariants as plain
use Rattle.rp_base.specs.declared.plain.Plain.TheViews.{roll-out-Plain}
use Rattle.rp_base.specs.declared.plain.Plain.TheFolds.{ind-Plain, map-Plain}
use Rattle.rp_base.specs.PlainValues.{as_int, tests_all, compare_layers, equal_to}
use Rattle.rp_base.specs.PlainLaws.{gather_roll, gather_tuple}
use Rattle.rp_base.specs.EqualLaws.{equal_layers}
use Rattle.py_store.specs.Digests.{mixed_all, int_digest, digest_step, digest}

pub digest_tuple : (xs : List Plain) → digest (plain.Tuple xs) ≡ mixed_all 6 (map digest xs)
unfolding digest
digest_tuple xs = gather_tuple ℕ digest_step xs

digest_roll : (x : Plain-F Plain) → digest (roll-Plain x) ≡ digest_step (map-Plain Plain ℕ digest x)
unfolding digest
digest_roll x = gather_roll ℕ digest_step x

ints_alike : (x y : ℤ) → int_eq x y ≡ true → int_digest x ≡ int_digest y
ints_alike x y h = ap int_digest ((signed_Decides x y).0 h)

abbrev Alike : Plain → Type 0
Alike p = (q : Plain) → equal_to p q ≡ true → digest p ≡ digest q

abbrev plain_layer : (P : Plain → Type 0) → Plain-F ((p : Plain) × P p) → Plain-F Plain
plain_layer P y = map-Plain ((p : Plain) × P p) Plain (λ e. e.0) y

items_alike : (xs : List ((p : Plain) × Alike p)) (ys : List Plain) → tests_all (map equal_to (map (λ e. e.0) xs)) ys ≡ true → map digest (map (λ e. e.0) xs) ≡ map digest ys
items_alike [] [] h = refl
items_alike [] (y ∷ ys) h = cc
items_alike (x ∷ xs) [] h = cc
items_alike (x ∷ xs) (y ∷ ys) h =
    let a = and_parts (equal_to x.0 y) (tests_all (map equal_to (map (λ e. e.0) xs)) ys) h in
    λ i. x.1 y a.0 i ∷ items_alike xs ys a.1 i

layer_alike : (x : Plain-F ((p : Plain) × Alike p)) (y : Plain-F Plain)
    → compare_layers (map-Plain Plain (Plain → Bool) equal_to (plain_layer Alike x)) y ≡ true → digest_step (map-Plain Plain ℕ digest (plain_layer Alike x)) ≡ digest_step (map-Plain Plain ℕ digest y)
layer_alike Plain-F.None Plain-F.None h = refl
layer_alike Plain-F.NotImpl Plain-F.NotImpl h = refl
layer_alike Plain-F.Ellipsis Plain-F.Ellipsis h = refl
layer_alike (Plain-F.Bool x) (Plain-F.Bool y) h = ints_alike (as_int x) (as_int y) h
layer_alike (Plain-F.Bool x) (Plain-F.Int y) h = ints_alike (as_int x) y h
layer_alike (Plain-F.Int x) (Plain-F.Bool y) h = ints_alike x (as_int y) h
layer_alike (Plain-F.Int x) (Plain-F.Int y) h = ints_alike x y h
layer_alike (Plain-F.Text x) (Plain-F.Text y) h = ap (mixed_all 2) ((bytes_decides x y).0 h)
layer_alike (Plain-F.Bytes x) (Plain-F.Bytes y) h = ap (mixed_all 3) ((bytes_decides x y).0 h)
layer_alike (Plain-F.Tuple xs) (Plain-F.Tuple ys) h = ap (mixed_all 6) (items_alike xs ys h)
layer_alike _ _ h = cc

alike_at : (x : Plain-F ((p : Plain) × Alike p)) → Alike (roll-Plain (plain_layer Alike x))
alike_at x q =
    let P : Plain → Type 0 = λ s. equal_to (roll-Plain (plain_layer Alike x)) s ≡ true → digest (roll-Plain (plain_layer Alike x)) ≡ digest s in
    let at_layer : P (roll-Plain (out-Plain q)) =
    λ h. digest_roll (plain_layer Alike x) ∙ layer_alike x (out-Plain q) (sym (equal_layers (plain_layer Alike x) (out-Plain q)) ∙ h) ∙ sym (digest_roll (out-Plain q)) in
    subst P (roll-out-Plain q) at_layer

pub equal_digests : (p q : Plain) → equal_to p q ≡ true → digest p ≡ digest q
equal_digests = ind-Plain Alike (λ x y is. subst (λ z. Alike (roll-Plain z)) is (alike_at y))
