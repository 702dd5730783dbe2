-- Recursion and induction over plain values.
use Rattle.std.proofs.Common.{◌≡◌, ℕ, ◌+◌, ◌*◌, ◌^◌, ◌∷◌, ◌++◌, [], List, Bool, true, false, ◌&&◌, map, length, max, fold, refl, sym, ◌∙◌, ap, subst, ℤ, pos, negsuc, ◌≤◌, ◌<◌, arith}
use Rattle.std.proofs.lemmas.Bool.{ltb-true, lt-ltb}
use Rattle.std.specs.List.{flat_map, concat, All, AllByRecursion}
use Rattle.std.proofs.lemmas.List.Elements.{All-from_recursion}
use Rattle.rp_base.specs.declared.plain.Plain.{Plain, roll-Plain}
use Rattle.rp_base.specs.declared.plain.Plain.TheOpen.{Plain-F}
use Rattle.rp_base.specs.declared.plain.Plain.TheVariants as plain
use Rattle.rp_base.specs.declared.plain.Plain.TheViews as views
use Rattle.rp_base.specs.declared.plain.Plain.TheFolds.{ind-Plain, map-Plain}
use Rattle.rp_base.specs.PlainLaws.{gather_tuple, depth_tuple}
use Rattle.rp_base.specs.PlainValues.{plain_depth}
use Rattle.brine_codec.specs.Spelling.{is_small_int, int_tag, spelling, spelling_step, spellable, spellable_step, all_true, is_size, count_spelling}

concat-map : (f : Plain → List ℕ) (xs : List Plain) → concat (map f xs) ≡ flat_map f xs
concat-map f [] = refl
concat-map f (x ∷ xs) = ap (λ (ys : List ℕ). f x ++ ys) (concat-map f xs)

length-map : (A : Type 0) (f : Plain → A) (xs : List Plain) → length (map f xs) ≡ length xs
length-map A f [] = refl
length-map A f (x ∷ xs) = simp (length-map A f xs)

pub spelling_tuple : (xs : List Plain) → spelling (plain.Tuple xs) ≡ count_spelling (length xs) ++ flat_map spelling xs
unfolding spelling
spelling_tuple xs = gather_tuple (List ℕ) spelling_step xs ∙ ap (λ (n : ℕ). count_spelling n ++ concat (map spelling xs)) (length-map (List ℕ) spelling xs) ∙ ap (λ (ys : List ℕ). count_spelling (length xs) ++ ys) (concat-map spelling xs)

pub spellable_tuple : (xs : List Plain) → spellable (plain.Tuple xs) ≡ (is_size (length xs) && all_true (map spellable xs))
unfolding spellable
spellable_tuple xs = gather_tuple Bool spellable_step xs ∙ ap (λ (n : ℕ). is_size n && all_true (map spellable xs)) (length-map Bool spellable xs)

-- what an induction over plain values asks for: each leaf, and a tuple whose items have P
pub record Cases (P : Plain → Type 0) : Type 0 where
  pub none : P plain.None
  pub bool : (b : Bool) → P (plain.Bool b)
  pub int : (n : ℤ) → P (plain.Int n)
  pub text : (t : List ℕ) → P (plain.Text t)
  pub bytes : (t : List ℕ) → P (plain.Bytes t)
  pub not_impl : P plain.NotImpl
  pub ellipsis : P plain.Ellipsis
  pub tuple : (xs : List Plain) → AllByRecursion P xs → P (plain.Tuple xs)

abbrev firsts : (P : Plain → Type 0) → List ((p : Plain) × P p) → List Plain
firsts P ys = map (λ e. e.0) ys

all_hold : (P : Plain → Type 0) (ys : List ((p : Plain) × P p)) → AllByRecursion P (firsts P ys)
all_hold P [] = tt
all_hold P (y ∷ ys) = (y.1, all_hold P ys)

layer_holds : (P : Plain → Type 0) → Cases P → (y : Plain-F ((p : Plain) × P p)) → P (roll-Plain (map-Plain ((p : Plain) × P p) Plain (λ e. e.0) y))
layer_holds P cases Plain-F.None = subst P (sym views.rolls-None) cases.none
layer_holds P cases (Plain-F.Bool b) = subst P (sym (views.rolls-Bool b)) (cases.bool b)
layer_holds P cases (Plain-F.Int n) = subst P (sym (views.rolls-Int n)) (cases.int n)
layer_holds P cases (Plain-F.Text t) = subst P (sym (views.rolls-Text t)) (cases.text t)
layer_holds P cases (Plain-F.Bytes t) = subst P (sym (views.rolls-Bytes t)) (cases.bytes t)
layer_holds P cases Plain-F.NotImpl = subst P (sym views.rolls-NotImpl) cases.not_impl
layer_holds P cases Plain-F.Ellipsis = subst P (sym views.rolls-Ellipsis) cases.ellipsis
layer_holds P cases (Plain-F.Tuple ys) = subst P (sym (views.rolls-Tuple (firsts P ys))) (cases.tuple (firsts P ys) (all_hold P ys))

pub by_cases : (P : Plain → Type 0) → Cases P → (p : Plain) → P p
by_cases P cases = ind-Plain P (λ x y is. subst (λ z. P (roll-Plain z)) is (layer_holds P cases y))

-- the greatest of a list is within n where each is
pub greatest_within : (a : ℕ) (xs : List ℕ) (n : ℕ) → a ≤ n → AllByRecursion (λ x. x ≤ n) xs → fold max a xs ≤ n
greatest_within a [] n h all = h
greatest_within a (x ∷ xs) n h all = let here : x ≤ n = all.0 in greatest_within (max a x) xs n (omega arith) all.1

pub each_within : (a : ℕ) (xs : List ℕ) (n : ℕ) → fold max a xs ≤ n → (a ≤ n) × AllByRecursion (λ x. x ≤ n) xs
each_within a [] n h = (h, tt)
each_within a (x ∷ xs) n h = let rest = each_within (max a x) xs n h in let here : max a x ≤ n = rest.0 in (omega arith, (omega arith, rest.1))

pub both : (b c : Bool) → b && c ≡ true → (b ≡ true) × (c ≡ true)
both true true e = (refl, refl)
both true false e = cc
both false c e = cc

pub joined : (b c : Bool) → b ≡ true → c ≡ true → b && c ≡ true
joined b c e h = rw (e, h)

all_spellable : (xs : List Plain) → all_true (map spellable xs) ≡ true → AllByRecursion (λ v. spellable v ≡ true) xs
all_spellable [] h = tt
all_spellable (x ∷ xs) h = let parts = both (spellable x) (all_true (map spellable xs)) h in (parts.0, all_spellable xs parts.1)

-- a tuple that has a spelling
pub tuple_parts : (v : Plain) (xs : List Plain) → v ≡ plain.Tuple xs → spellable v ≡ true → (length xs < 2 ^ 32) × AllByRecursion (λ v. spellable v ≡ true) xs
tuple_parts v xs e h =
    let parts = both (is_size (length xs)) (all_true (map spellable xs)) (sym (ap spellable e ∙ spellable_tuple xs) ∙ h) in
    (ltb-true _ _ parts.0, all_spellable xs parts.1)

pub tuple_spelled : (v : Plain) (xs ys : List Plain) → v ≡ plain.Tuple xs → ys ≡ xs → count_spelling (length ys) ++ flat_map spelling ys ≡ spelling v
tuple_spelled v xs ys e same = sym (spelling_tuple ys) ∙ ap (λ (zs : List Plain). spelling (plain.Tuple zs)) same ∙ ap spelling (sym e)

pub tuple_needs : (v : Plain) (xs ys : List Plain) → v ≡ plain.Tuple xs → ys ≡ xs → spellable v ≡ true → (length ys < 2 ^ 32) × All (λ v. spellable v ≡ true) ys
tuple_needs v xs ys e same h =
    let parts = tuple_parts v ys (e ∙ ap (λ (zs : List Plain). plain.Tuple zs) (sym same)) h in
    (parts.0, All-from_recursion (λ v. spellable v ≡ true) ys parts.1)

-- the measure of the writer falls
pub tuple_falls : (v : Plain) (xs ys : List Plain) → v ≡ plain.Tuple xs → ys ≡ xs → 2 * fold max 0 (map plain_depth ys) + 1 < 2 * plain_depth v
tuple_falls v xs ys e same =
    let deep : plain_depth v ≡ 1 + fold max 0 (map plain_depth ys) = ap plain_depth e ∙ ap (λ (zs : List Plain). plain_depth (plain.Tuple zs)) (sym same) ∙ depth_tuple ys in
    omega (arith, deep)

each_deep : (xs : List Plain) (n : ℕ) → AllByRecursion (λ k. k ≤ n) (map plain_depth xs) → AllByRecursion (λ v. plain_depth v ≤ n) xs
each_deep [] n h = tt
each_deep (x ∷ xs) n h = (h.0, each_deep xs n h.1)

pub items_deep : (xs : List Plain) → All (λ v. plain_depth v ≤ fold max 0 (map plain_depth xs)) xs
items_deep xs = let n = fold max 0 (map plain_depth xs) in All-from_recursion (λ v. plain_depth v ≤ n) xs (each_deep xs n (each_within 0 (map plain_depth xs) n (omega arith)).1)

-- ---- an int from -48 to 159

pub small_int_spelled : (z : ℤ) → is_small_int z ≡ true → spelling (plain.Int z) ≡ int_tag z ∷ []
unfolding spelling
small_int_spelled z small = rw small refl

pub small_int_spellable : (z : ℤ) → is_small_int z ≡ true → spellable (plain.Int z) ≡ true
unfolding spellable
small_int_spellable (pos n) small = let low : n < 160 = ltb-true n 160 small in lt-ltb n (2 ^ 127) (omega arith)
small_int_spellable (negsuc n) small = let low : n < 48 = ltb-true n 48 small in lt-ltb n (2 ^ 127) (omega arith)
