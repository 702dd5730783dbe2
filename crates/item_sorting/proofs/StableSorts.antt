-- A list that is sorted stably is the one that inserting its items from the right gives, each in front of its equals.
use Rattle.std.proofs.Common.{◌≡◌, ◌≤◌, ◌<◌, ℕ, suc, Bool, true, false, not, ◌&&◌, cond, List, [], ◌∷◌, length, sym, ◌∙◌, ap, refl, arith}
use Rattle.std.proofs.lemmas.Bool.{and_parts}
use Rattle.std.proofs.lemmas.List.Sorted.{sorted_far}
use Rattle.std.specs.Bool.{⊤}
use Rattle.std.specs.Cmp.{IsStrictWeakOrder}
use Rattle.std.specs.List.{filter}
use Rattle.std.specs.List.Sorted.{IsSortedBy, IsStableBy, ties}
use lib.ListN.{get_or}

-- what both of two choices have, where the one is taken by its test, has what is chosen
pub chosen : {A : Type 0} (P : A → Type 0) (x y : A) (b : Bool) → (b ≡ true → P x) → (b ≡ false → P y) → P (elim b [ true ↦ x | false ↦ y ])
chosen P x y true f g = f refl
chosen P x y false f g = g refl

by_cases : {A : Type 0} (b : Bool) → (b ≡ true → A) → (b ≡ false → A) → A
by_cases true f g = f refl
by_cases false f g = g refl

not_true : (b : Bool) → not b ≡ true → b ≡ false
not_true true h = sym h
not_true false h = refl

to_false : (b : Bool) → (b ≡ true → b ≡ false) → b ≡ false
to_false true h = h refl
to_false false h = refl

both_false : (a b : Bool) → a ≡ false → b ≡ false → not a && not b ≡ true
both_false a b g h = λ i. not (g i) && not (h i)

module _ {X : Type 0} (lt : X → X → Bool) where
  -- insertion by this test, and the order that it makes
  abbrev pub insert_by : X → List X → List X
  insert_by p [] = p ∷ []
  insert_by p (q ∷ qs) = elim (lt q p) [ true ↦ q ∷ insert_by p qs | false ↦ p ∷ q ∷ qs ]

  abbrev pub order_by : List X → List X
  order_by [] = []
  order_by (x ∷ xs) = insert_by x (order_by xs)

  -- none of them stands before x
  abbrev Above : X → List X → Type 0
  Above x [] = ⊤
  Above x (y ∷ ys) = (lt y x ≡ false) × Above x ys

  -- none stands before an earlier one
  abbrev Up : List X → Type 0
  Up [] = ⊤
  Up (x ∷ xs) = Above x xs × Up xs

  above_of : (x : X) (xs : List X) → ((k : ℕ) → k < length xs → lt (get_or xs k x) x ≡ false) → Above x xs
  above_of x [] h = tt
  above_of x (y ∷ ys) h = (h 0 (omega arith), above_of x ys (λ k p. h (suc k) (omega arith)))

  up_of : (xs : List X) → ((i j : ℕ) (d : X) → i ≤ j → j < length xs → lt (get_or xs j d) (get_or xs i d) ≡ false) → Up xs
  up_of [] h = tt
  up_of (x ∷ xs) h = (above_of x xs (λ k p. h 0 (suc k) x (omega arith) (omega arith)), up_of xs (λ i j d p q. h (suc i) (suc j) d (omega arith) (omega arith)))

  above_inserted : (x p : X) (qs : List X) → lt p x ≡ false → Above x qs → Above x (insert_by p qs)
  above_inserted x p [] f a = (f, tt)
  above_inserted x p (q ∷ qs) f a = chosen (Above x) (q ∷ insert_by p qs) (p ∷ q ∷ qs) (lt q p) (λ h. (a.0, above_inserted x p qs f a.1)) (λ h. (f, a))

  -- an item that goes past another goes past none of those that tie
  past : (p q : X) (a b : Bool) (us vs : List X) → (b ≡ true → a ≡ false) → vs ≡ cond a (p ∷ us) us
      → cond b (q ∷ vs) vs ≡ cond a (p ∷ cond b (q ∷ us) us) (cond b (q ∷ us) us)
  past p q true true us vs n e = let h : true ≡ false = n refl in cc
  past p q false true us vs n e = ap (λ l. q ∷ l) e
  past p q true false us vs n e = e
  past p q false false us vs n e = e

  same_rest : (y : X) (b : Bool) (us vs : List X) → cond b (y ∷ us) us ≡ cond b (y ∷ vs) vs → us ≡ vs
  same_rest y true us vs e = cc
  same_rest y false us vs e = e

  module _ (o : IsStrictWeakOrder lt) where
    above_chain : (x y : X) (ws : List X) → lt y x ≡ false → Above y ws → Above x ws
    above_chain x y [] h a = tt
    above_chain x y (w ∷ ws) h a = (o.chain w y x a.0 h, above_chain x y ws h a.1)

    up_inserted : (p : X) (qs : List X) → Up qs → Up (insert_by p qs)
    up_inserted p [] u = (tt, tt)
    up_inserted p (q ∷ qs) u = chosen Up (q ∷ insert_by p qs) (p ∷ q ∷ qs) (lt q p)
        (λ h. (above_inserted q p qs (o.one_way q p h) u.0, up_inserted p qs u.1))
        (λ h. ((h, above_chain p q qs h u.0), u))

    up_order : (xs : List X) → Up (order_by xs)
    up_order [] = tt
    up_order (x ∷ xs) = up_inserted x (order_by xs) (up_order xs)

    itself : (x : X) → lt x x ≡ false
    itself x = to_false (lt x x) (o.one_way x x)

    tied_itself : (x : X) → ties lt x x ≡ true
    tied_itself x = both_false (lt x x) (lt x x) (itself x) (itself x)

    before : (x y : X) → ties lt x y ≡ true → lt x y ≡ false
    before x y h = not_true (lt x y) (and_parts (not (lt x y)) (not (lt y x)) h).0

    behind : (x y : X) → ties lt x y ≡ true → lt y x ≡ false
    behind x y h = not_true (lt y x) (and_parts (not (lt x y)) (not (lt y x)) h).1

    -- where q stands before p, not both tie with x
    apart : (x p q : X) → lt q p ≡ true → ties lt x q ≡ true → ties lt x p ≡ false
    apart x p q h t = to_false (ties lt x p) (λ s. let e : lt q p ≡ false = o.chain q x p (behind x q t) (before x p s) in cc)

    stable_inserted : (x p : X) (qs : List X) → filter (ties lt x) (insert_by p qs) ≡ filter (ties lt x) (p ∷ qs)
    stable_inserted x p [] = refl
    stable_inserted x p (q ∷ qs) = chosen (λ l. filter (ties lt x) l ≡ filter (ties lt x) (p ∷ q ∷ qs)) (q ∷ insert_by p qs) (p ∷ q ∷ qs) (lt q p)
        (λ h. past p q (ties lt x p) (ties lt x q) (filter (ties lt x) qs) (filter (ties lt x) (insert_by p qs)) (apart x p q h) (stable_inserted x p qs))
        (λ h. refl)

    stable_order : (x : X) (xs : List X) → filter (ties lt x) (order_by xs) ≡ filter (ties lt x) xs
    stable_order x [] = refl
    stable_order x (y ∷ ys) = stable_inserted x y (order_by ys) ∙ ap (λ l. cond (ties lt x y) (y ∷ l) l) (stable_order x ys)

    -- where one of these ties with z, and none stands before y, z does not
    found : (z y : X) (ws rest : List X) → Above y ws → filter (ties lt z) ws ≡ z ∷ rest → lt z y ≡ false
    found z y [] rest a e = cc
    found z y (w ∷ ws) rest a e = by_cases (ties lt z w)
        (λ h. o.chain z w y (before z w h) a.0)
        (λ h. found z y ws rest a.1 (ap (λ b. cond b (w ∷ filter (ties lt z) ws) (filter (ties lt z) ws)) (sym h) ∙ e))

    heads : (z y : X) (ys zs : List X) → Above y ys → filter (ties lt z) (y ∷ ys) ≡ filter (ties lt z) (z ∷ zs) → lt z y ≡ false
    heads z y ys zs a e = found z y (y ∷ ys) (filter (ties lt z) zs) (itself y, a) (e ∙ ap (λ b. cond b (z ∷ filter (ties lt z) zs) (filter (ties lt z) zs)) (tied_itself z))

    none_left : (z : X) (zs : List X) → [] ≡ filter (ties lt z) (z ∷ zs) → [] ≡ z ∷ zs
    none_left z zs e = let h : [] ≡ z ∷ filter (ties lt z) zs = e ∙ ap (λ b. cond b (z ∷ filter (ties lt z) zs) (filter (ties lt z) zs)) (tied_itself z) in cc

    first_is : (y z : X) (us vs : List X) → ties lt y z ≡ true → cond (ties lt y y) (y ∷ us) us ≡ cond (ties lt y z) (z ∷ vs) vs → y ≡ z
    first_is y z us vs t e =
        let h : y ∷ us ≡ z ∷ vs = ap (λ b. cond b (y ∷ us) us) (sym (tied_itself y)) ∙ e ∙ ap (λ b. cond b (z ∷ vs) vs) t in
        cc

    -- two lists in order are the same where the same tie in the same order
    unique : (ys zs : List X) → Up ys → Up zs → ((x : X) → filter (ties lt x) ys ≡ filter (ties lt x) zs) → ys ≡ zs
    unique [] [] u v s = refl
    unique [] (z ∷ zs) u v s = none_left z zs (s z)
    unique (y ∷ ys) [] u v s = sym (none_left y ys (sym (s y)))
    unique (y ∷ ys) (z ∷ zs) u v s =
        let t : ties lt y z ≡ true = both_false (lt y z) (lt z y) (heads y z zs ys v.0 (sym (s y))) (heads z y ys zs u.0 (s z)) in
        let e : y ≡ z = first_is y z (filter (ties lt y) ys) (filter (ties lt y) zs) t (s y) in
        let rest : ys ≡ zs = unique ys zs u.1 v.1 (λ x. same_rest y (ties lt x y) (filter (ties lt x) ys) (filter (ties lt x) zs) (s x ∙ ap (λ w. cond (ties lt x w) (w ∷ filter (ties lt x) zs) (filter (ties lt x) zs)) (sym e))) in
        λ i. e i ∷ rest i

    pub stable_sort_is : (xs ys : List X) → IsSortedBy lt ys → IsStableBy lt xs ys → ys ≡ order_by xs
    stable_sort_is xs ys up stable = unique ys (order_by xs) (up_of ys (sorted_far lt o ys up)) (up_order xs) (λ x. stable x ∙ sym (stable_order x xs))
