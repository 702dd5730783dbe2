-- Tuples stand as their first unequal pair, and an order agrees with equality.
use Rattle.std.proofs.Common.{◌≡◌, List, [], ◌∷◌, ◌++◌, map, Bool, true, false, ◌&&◌, Option, Some, Ordering, Less, Equal, Greater, refl, sym, ◌∙◌, ap, subst, if◌then◌else◌}
use Rattle.std.proofs.lemmas.Bool.{and_parts}
use Rattle.std.proofs.lemmas.Map.Text.{is_eq-slice_cmp}
use Rattle.std.specs.Ordering.{is_eq}
use Rattle.rp_base.specs.declared.plain.Plain.{Plain, out-Plain, roll-Plain}
use Rattle.rp_base.specs.declared.plain.Plain.TheOpen.{Plain-F}
use Rattle.rp_base.specs.declared.plain.Plain.TheVariants as plain
use Rattle.rp_base.specs.declared.plain.Plain.TheViews.{roll-out-Plain}
use Rattle.rp_base.specs.declared.plain.Plain.TheFolds.{ind-Plain, map-Plain}
use Rattle.rp_base.specs.PlainValues.{gather, tests_all, compare_layers, equal_to, equal_items}
use Rattle.rp_base.specs.PlainLaws.{gather_roll, look_roll}
use Rattle.rp_base.specs.EqualLaws.{equal_layers}
use Rattle.py_plain.specs.Comparing.{first_unequal, order_at, order_step, order_of, items_order}
use Rattle.py_plain.specs.OrderLaws.{order_tuples}

-- equal fronts do not count
skip : (us vs xs ys : List Plain) → equal_items us vs ≡ true → items_order (us ++ xs) (vs ++ ys) ≡ items_order xs ys
skip [] [] xs ys h = refl
skip [] (v ∷ vs) xs ys h = cc
skip (u ∷ us) [] xs ys h = cc
skip (u ∷ us) (v ∷ vs) xs ys h =
    let both = and_parts (equal_to u v) (equal_items us vs) h in
    ap (λ (b : Bool). if b then items_order (us ++ xs) (vs ++ ys) else order_of u v) both.0 ∙ skip us vs xs ys both.1

pub first_pair : (us vs xs ys : List Plain) (x y : Plain) → equal_items us vs ≡ true → equal_to x y ≡ false → order_of (plain.Tuple (us ++ x ∷ xs)) (plain.Tuple (vs ++ y ∷ ys)) ≡ order_of x y
first_pair us vs xs ys x y h k =
    order_tuples (us ++ x ∷ xs) (vs ++ y ∷ ys) ∙ skip us vs (x ∷ xs) (y ∷ ys) h ∙ ap (λ (b : Bool). if b then items_order xs ys else order_of x y) k

pub no_pair : (us vs : List Plain) → equal_items us vs ≡ true → order_of (plain.Tuple us) (plain.Tuple vs) ≡ Some Equal
no_pair us vs h = order_tuples us vs ∙ same us vs h
  where
    same : (us vs : List Plain) → equal_items us vs ≡ true → items_order us vs ≡ Some Equal
    same [] [] h = refl
    same [] (v ∷ vs) h = cc
    same (u ∷ us) [] h = cc
    same (u ∷ us) (v ∷ vs) h =
        let both = and_parts (equal_to u v) (equal_items us vs) h in
        ap (λ (b : Bool). if b then items_order us vs else order_of u v) both.0 ∙ same us vs both.1

pub shorter : (us vs ys : List Plain) (y : Plain) → equal_items us vs ≡ true → order_of (plain.Tuple us) (plain.Tuple (vs ++ y ∷ ys)) ≡ Some Less
shorter us vs ys y h = order_tuples us (vs ++ y ∷ ys) ∙ less us vs h
  where
    less : (us vs : List Plain) → equal_items us vs ≡ true → items_order us (vs ++ y ∷ ys) ≡ Some Less
    less [] [] h = refl
    less [] (v ∷ vs) h = cc
    less (u ∷ us) [] h = cc
    less (u ∷ us) (v ∷ vs) h =
        let both = and_parts (equal_to u v) (equal_items us vs) h in
        ap (λ (b : Bool). if b then items_order us (vs ++ y ∷ ys) else order_of u v) both.0 ∙ less us vs both.1

pub longer : (us vs xs : List Plain) (x : Plain) → equal_items us vs ≡ true → order_of (plain.Tuple (us ++ x ∷ xs)) (plain.Tuple vs) ≡ Some Greater
longer us vs xs x h = order_tuples (us ++ x ∷ xs) vs ∙ greater us vs h
  where
    greater : (us vs : List Plain) → equal_items us vs ≡ true → items_order (us ++ x ∷ xs) vs ≡ Some Greater
    greater [] [] h = refl
    greater [] (v ∷ vs) h = cc
    greater (u ∷ us) [] h = cc
    greater (u ∷ us) (v ∷ vs) h =
        let both = and_parts (equal_to u v) (equal_items us vs) h in
        ap (λ (b : Bool). if b then items_order (us ++ x ∷ xs) vs else order_of u v) both.0 ∙ greater us vs both.1

-- ---- an order agrees with equality

abbrev Orders : Type 0
Orders = Plain → Plain → Option Ordering

abbrev own_order : Plain → Orders
own_order = gather Orders order_step

order_layers : (x z : Plain-F Plain) → order_of (roll-Plain x) (roll-Plain z) ≡ order_at (map-Plain Plain Orders own_order x) x z
unfolding order_of
order_layers x z =
    ap (λ (f : Orders). f (roll-Plain x) (roll-Plain z)) (gather_roll Orders order_step x)
    ∙ (λ i. order_at (map-Plain Plain Orders own_order x) (look_roll x i) (look_roll z i))

some_is : {A : Type 0} (x y : A) → Some x ≡ Some y → x ≡ y
some_is x y e = cc

abbrev Agrees : Plain → Type 0
Agrees p = (q : Plain) (o : Ordering) → order_of p q ≡ Some o → equal_to p q ≡ is_eq o

abbrev bare : Plain-F ((p : Plain) × Agrees p) → Plain-F Plain
bare y = map-Plain ((p : Plain) × Agrees p) Plain (λ e. e.0) y

items_agree : (ys : List ((p : Plain) × Agrees p)) (zs : List Plain) (o : Ordering)
    → first_unequal (map own_order (map (λ e. e.0) ys)) (map (λ e. e.0) ys) zs ≡ Some o → tests_all (map equal_to (map (λ e. e.0) ys)) zs ≡ is_eq o
unfolding order_of
items_agree [] [] o h = ap is_eq (some_is Equal o h)
items_agree [] (z ∷ zs) o h = ap is_eq (some_is Less o h)
items_agree (y ∷ ys) [] o h = ap is_eq (some_is Greater o h)
items_agree (y ∷ ys) (z ∷ zs) o h = split (equal_to y.0 z) refl (items_agree ys zs o)
  where
    later : Option Ordering
    later = first_unequal (map own_order (map (λ e. e.0) ys)) (map (λ e. e.0) ys) zs

    rest : Bool
    rest = tests_all (map equal_to (map (λ e. e.0) ys)) zs

    split : (b : Bool) → equal_to y.0 z ≡ b → (later ≡ Some o → rest ≡ is_eq o) → equal_to y.0 z && rest ≡ is_eq o
    split true e more = ap (λ (b : Bool). b && rest) e ∙ more (ap (λ (b : Bool). if b then later else own_order y.0 y.0 z) (sym e) ∙ h)
    split false e more = ap (λ (b : Bool). b && rest) e ∙ sym e ∙ y.1 z o (ap (λ (b : Bool). if b then later else own_order y.0 y.0 z) (sym e) ∙ h)

layer_agrees : (y : Plain-F ((p : Plain) × Agrees p)) (z : Plain-F Plain) (o : Ordering)
    → order_at (map-Plain Plain Orders own_order (bare y)) (bare y) z ≡ Some o → compare_layers (map-Plain Plain (Plain → Bool) equal_to (bare y)) z ≡ is_eq o
layer_agrees (Plain-F.Bool x) (Plain-F.Bool y) o h = ap is_eq (some_is _ o h)
layer_agrees (Plain-F.Bool x) (Plain-F.Int y) o h = ap is_eq (some_is _ o h)
layer_agrees (Plain-F.Int x) (Plain-F.Bool y) o h = ap is_eq (some_is _ o h)
layer_agrees (Plain-F.Int x) (Plain-F.Int y) o h = ap is_eq (some_is _ o h)
layer_agrees (Plain-F.Text s) (Plain-F.Text t) o h = sym (is_eq-slice_cmp s t) ∙ ap is_eq (some_is _ o h)
layer_agrees (Plain-F.Bytes s) (Plain-F.Bytes t) o h = sym (is_eq-slice_cmp s t) ∙ ap is_eq (some_is _ o h)
layer_agrees (Plain-F.Tuple ys) (Plain-F.Tuple zs) o h = items_agree ys zs o h
layer_agrees _ _ o h = cc

agrees_at : (y : Plain-F ((p : Plain) × Agrees p)) → Agrees (roll-Plain (bare y))
agrees_at y q o h =
    let P : Plain → Type 0 = λ r. order_of (roll-Plain (bare y)) r ≡ Some o → equal_to (roll-Plain (bare y)) r ≡ is_eq o in
    let at_layer : P (roll-Plain (out-Plain q)) = λ k. equal_layers (bare y) (out-Plain q) ∙ layer_agrees y (out-Plain q) o (sym (order_layers (bare y) (out-Plain q)) ∙ k) in
    subst P (roll-out-Plain q) at_layer h

pub agrees : (p q : Plain) (o : Ordering) → order_of p q ≡ Some o → equal_to p q ≡ is_eq o
agrees = ind-Plain Agrees (λ x y is. subst (λ z. Agrees (roll-Plain z)) is (agrees_at y))
