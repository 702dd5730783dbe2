-- What becomes of the entries when one is put or taken out.
use Rattle.std.proofs.Common.{◌≡◌, ℕ, zero, suc, Bool, true, false, cond, List, [], ◌∷◌, ◌++◌, Option, Some, None, slice_set, remove, position, is_some, refl, sym, ◌∙◌, ap, subst}
use Rattle.std.proofs.lemmas.List.{map-append}
use Rattle.std.proofs.lemmas.Map.Keys.{IsDistinct-push, IsDistinct-head, IsDistinct-tail, IsDistinct-cons}
use Rattle.std.proofs.lemmas.Map.Made.{is_some-lookup}
use Rattle.std.specs.Cmp.{IsEquivalence}
use Rattle.std.specs.List.{IsDistinct, AllByRecursion, list_any}
use Rattle.std.specs.Map.{keys_of, values_of, lookup, remove_entry}
use Rattle.indexmap.specs.IndexMap.{insert_entry, set_value_at}
use Rattle.indexmap.proofs.MapLemmas.{Found-position, Missing-position, insert_entry-first, insert_entry-absent, remove_entry-first}

module _ {K X : Type 0} where
  keys_stay : (es : List (K × X)) (at : ℕ) (x : X) → keys_of (set_value_at es at x) ≡ keys_of es
  keys_stay [] at x = refl
  keys_stay (e ∷ es) zero x = refl
  keys_stay (e ∷ es) (suc at) x = ap (λ ks. e.0 ∷ ks) (keys_stay es at x)

  value_changes : (es : List (K × X)) (at : ℕ) (x : X) → values_of (set_value_at es at x) ≡ slice_set (values_of es) at x
  value_changes [] at x = refl
  value_changes (e ∷ es) zero x = refl
  value_changes (e ∷ es) (suc at) x = ap (λ vs. e.1 ∷ vs) (value_changes es at x)

  module _ (eq : K → K → Bool) (k : K) (x : X) (es : List (K × X)) where
    pub equal_key_stays : (at : ℕ) → position (eq k) (keys_of es) ≡ Some at → (keys_of (insert_entry eq es k x) ≡ keys_of es) × (values_of (insert_entry eq es k x) ≡ slice_set (values_of es) at x)
    equal_key_stays at h =
        let changed : insert_entry eq es k x ≡ set_value_at es at x = insert_entry-first eq k x es at (Found-position (eq k) es at h).first in
        (ap keys_of changed ∙ keys_stay es at x, ap values_of changed ∙ value_changes es at x)

    pub new_key_goes_last : position (eq k) (keys_of es) ≡ None → insert_entry eq es k x ≡ es ++ (k, x) ∷ []
    new_key_goes_last h = insert_entry-absent eq k x es (Missing-position (eq k) es h).absent

  module _ (test : K → Bool) where
    pub entry_is_taken : (es : List (K × X)) (at : ℕ) → position test (keys_of es) ≡ Some at → remove_entry test es ≡ remove es at
    entry_is_taken es at h = remove_entry-first test es at (Found-position test es at h).first

    stays_first : (b : Bool) (e : K × X) (es fs : List (K × X)) (r : Option X) → (r ≡ None → fs ≡ es) → cond b (Some e.1) r ≡ None → cond b es (e ∷ fs) ≡ e ∷ es
    stays_first true e es fs r later h = cc
    stays_first false e es fs r later h = ap (λ gs. e ∷ gs) (later h)

    stay : (es : List (K × X)) → lookup test es ≡ None → remove_entry test es ≡ es
    stay [] h = refl
    stay (e ∷ es) h = stays_first (test e.0) e es (remove_entry test es) (lookup test es) (stay es) h

    pub nothing_is_taken : (es : List (K × X)) → position test (keys_of es) ≡ None → remove_entry test es ≡ es
    nothing_is_taken es h = stay es (Missing-position test es h).value

    rest_first : (P : K → Type 0) (b : Bool) (e : K × X) (es fs : List (K × X)) → P e.0 → AllByRecursion P (keys_of es) → AllByRecursion P (keys_of fs) → AllByRecursion P (keys_of (cond b es (e ∷ fs)))
    rest_first P true e es fs p all rest = all
    rest_first P false e es fs p all rest = (p, rest)

    rest : (P : K → Type 0) (es : List (K × X)) → AllByRecursion P (keys_of es) → AllByRecursion P (keys_of (remove_entry test es))
    rest P [] h = h
    rest P (e ∷ es) h = rest_first P (test e.0) e es (remove_entry test es) h.0 h.1 (rest P es h.1)

  module _ (eq : K → K → Bool) where
    fewer_first : (b : Bool) (e : K × X) (es fs : List (K × X)) → IsDistinct eq (keys_of es) → AllByRecursion (λ k. eq e.0 k ≡ false) (keys_of fs) → IsDistinct eq (keys_of fs) → IsDistinct eq (keys_of (cond b es (e ∷ fs)))
    fewer_first true e es fs d apart fewer = d
    fewer_first false e es fs d apart fewer = IsDistinct-cons eq e.0 (keys_of fs) apart fewer

    pub fewer_stay_unequal : (test : K → Bool) (es : List (K × X)) → IsDistinct eq (keys_of es) → IsDistinct eq (keys_of (remove_entry test es))
    fewer_stay_unequal test [] d = d
    fewer_stay_unequal test (e ∷ es) d =
        let tail = IsDistinct-tail eq e.0 (keys_of es) d in
        fewer_first (test e.0) e es (remove_entry test es) tail (rest test (λ k. eq e.0 k ≡ false) es (IsDistinct-head eq e.0 (keys_of es) d)) (fewer_stay_unequal test es tail)

at_equal : {X : Type 0} (b c : Bool) (x y r : Option X) → c ≡ b → cond c x r ≡ cond b x (cond c y r)
at_equal true true x y r e = refl
at_equal true false x y r e = cc
at_equal false true x y r e = cc
at_equal false false x y r e = refl

at_other : {X : Type 0} (b c : Bool) (x y r : Option X) → (b ≡ true → c ≡ false) → cond c y (cond b x r) ≡ cond b x (cond c y r)
at_other true true x y r f = let bad : true ≡ false = f refl in cc
at_other true false x y r f = refl
at_other false c x y r f = refl

at_taken : {X : Type 0} (b c : Bool) (y r : Option X) → c ≡ b → (b ≡ true → r ≡ None) → r ≡ cond b None (cond c y r)
at_taken true true y r e f = f refl
at_taken true false y r e f = cc
at_taken false true y r e f = cc
at_taken false false y r e f = refl

-- equal to the one exactly where equal to the other
same_test : {K : Type 0} {eq : K → K → Bool} → IsEquivalence eq → (q k l : K) → eq k l ≡ true → eq q l ≡ eq q k
same_test laws q k l h = laws.symm q l ∙ sym (laws.congr k l q h) ∙ laws.symm k q

apart : {K : Type 0} {eq : K → K → Bool} → IsEquivalence eq → (q k l : K) → eq k l ≡ false → eq q k ≡ true → eq q l ≡ false
apart laws q k l h g = laws.congr q k l g ∙ h

nothing : {X : Type 0} (b : Bool) → None ≡ cond {A = Option X} b None None
nothing true = refl
nothing false = refl

module _ {K X : Type 0} {eq : K → K → Bool} (laws : IsEquivalence eq) where
  found_first : (q k : K) (x : X) (a : Bool) (e : K × X) (es fs : List (K × X)) → eq k e.0 ≡ a → lookup (eq q) fs ≡ cond (eq q k) (Some x) (lookup (eq q) es)
      → lookup (eq q) (cond a ((e.0, x) ∷ es) (e ∷ fs)) ≡ cond (eq q k) (Some x) (lookup (eq q) (e ∷ es))
  found_first q k x true e es fs is later = at_equal (eq q k) (eq q e.0) (Some x) (Some e.1) (lookup (eq q) es) (same_test laws q k e.0 is)
  found_first q k x false e es fs is later = ap (cond (eq q e.0) (Some e.1)) later ∙ at_other (eq q k) (eq q e.0) (Some x) (Some e.1) (lookup (eq q) es) (apart laws q k e.0 is)

  pub found_again : (q k : K) (x : X) (es : List (K × X)) → lookup (eq q) (insert_entry eq es k x) ≡ cond (eq q k) (Some x) (lookup (eq q) es)
  found_again q k x [] = refl
  found_again q k x (e ∷ es) = found_first q k x (eq k e.0) e es (insert_entry eq es k x) refl (found_again q k x es)

  none_equal : (q k : K) (es : List (K × X)) → eq q k ≡ true → AllByRecursion (λ l. eq k l ≡ false) (keys_of es) → lookup (eq q) es ≡ None
  none_equal q k [] h all = refl
  none_equal q k (e ∷ es) h all = ap (λ b. cond b (Some e.1) (lookup (eq q) es)) (apart laws q k e.0 all.0 h) ∙ none_equal q k es h all.1

  equal_to_head : (q k l : K) (es : List (K × X)) → eq k l ≡ true → AllByRecursion (λ m. eq l m ≡ false) (keys_of es) → eq q k ≡ true → lookup (eq q) es ≡ None
  equal_to_head q k l es is all h = none_equal q l es (same_test laws q k l is ∙ h) all

  gone_first : (q k : K) (a : Bool) (e : K × X) (es fs : List (K × X)) → eq k e.0 ≡ a → AllByRecursion (λ l. eq e.0 l ≡ false) (keys_of es) → lookup (eq q) fs ≡ cond (eq q k) None (lookup (eq q) es)
      → lookup (eq q) (cond a es (e ∷ fs)) ≡ cond (eq q k) None (lookup (eq q) (e ∷ es))
  gone_first q k true e es fs is all later = at_taken (eq q k) (eq q e.0) (Some e.1) (lookup (eq q) es) (same_test laws q k e.0 is) (equal_to_head q k e.0 es is all)
  gone_first q k false e es fs is all later = ap (cond (eq q e.0) (Some e.1)) later ∙ at_other (eq q k) (eq q e.0) None (Some e.1) (lookup (eq q) es) (apart laws q k e.0 is)

  pub taken_is_gone : (q k : K) (es : List (K × X)) → IsDistinct eq (keys_of es) → lookup (eq q) (remove_entry (eq k) es) ≡ cond (eq q k) None (lookup (eq q) es)
  taken_is_gone q k [] d = nothing (eq q k)
  taken_is_gone q k (e ∷ es) d = gone_first q k (eq k e.0) e es (remove_entry (eq k) es) refl (IsDistinct-head eq e.0 (keys_of es) d) (taken_is_gone q k es (IsDistinct-tail eq e.0 (keys_of es) d))

  more_by_place : (k : K) (x : X) (es : List (K × X)) (r : Option ℕ) → position (eq k) (keys_of es) ≡ r → IsDistinct eq (keys_of es) → IsDistinct eq (keys_of (insert_entry eq es k x))
  more_by_place k x es (Some at) h d = subst (IsDistinct eq) (sym (equal_key_stays eq k x es at h).0) d
  more_by_place k x es None h d =
      let keys : keys_of (insert_entry eq es k x) ≡ keys_of es ++ k ∷ [] = ap keys_of (new_key_goes_last eq k x es h) ∙ map-append (λ e. e.0) es ((k, x) ∷ []) in
      let absent : list_any (eq k) (keys_of es) ≡ false = sym (is_some-lookup (eq k) es) ∙ ap is_some (Missing-position (eq k) es h).value in
      subst (IsDistinct eq) (sym keys) (IsDistinct-push laws (keys_of es) k d absent)

  pub more_stay_unequal : (k : K) (x : X) (es : List (K × X)) → IsDistinct eq (keys_of es) → IsDistinct eq (keys_of (insert_entry eq es k x))
  more_stay_unequal k x es d = more_by_place k x es (position (eq k) (keys_of es)) refl d
