-- Numbers are ordered by their ints, and texts by their bytes.
use Rattle.std.proofs.Common.{◌≡◌, Bool, true, false, ◌&&◌, List, [], ◌∷◌, ◌∙◌, ap, refl, nat_cmp}
use Rattle.std.proofs.lemmas.Bool.{and_parts}
use Rattle.std.proofs.lemmas.Cmp.{int_cmp_total, nat_list_cmp_total}
use Rattle.std.proofs.lemmas.List.MinMax.{ranks_by}
use Rattle.std.specs.Cmp.{IsStrictWeakOrder}
use Rattle.std.specs.Cmp.Lexicographic.{slice_cmp}
use Rattle.std.specs.List.{list_all}
use Rattle.std.specs.Ordering.{int_cmp, is_lt}
use Rattle.rp_base.specs.declared.plain.Plain.{Plain}
use Rattle.rp_base.specs.declared.plain.Plain.TheVariants as plain
use Rattle.py_plain.specs.Comparing.{order_of}
use Rattle.language_rules.specs.Ordering.{is_number, is_text, stands_before, inserted, in_order}
use Rattle.item_sorting.specs.Keys.{number_of, bytes_of}
use Rattle.item_sorting.proofs.StableSorts.{chosen, insert_by, order_by}

abbrev pub number_before : Plain → Plain → Bool
number_before p q = is_lt (int_cmp (number_of p) (number_of q))

abbrev pub text_before : Plain → Plain → Bool
text_before p q = is_lt (slice_cmp nat_cmp (bytes_of p) (bytes_of q))

pub numbers_rank : IsStrictWeakOrder number_before
numbers_rank = ranks_by int_cmp_total number_of

pub texts_rank : IsStrictWeakOrder text_before
texts_rank = ranks_by nat_list_cmp_total bytes_of

abbrev AgreesOn : (Plain → Plain → Bool) → (Plain → Bool) → Type 0
AgreesOn lt test = (p q : Plain) → test p ≡ true → test q ≡ true → lt p q ≡ stands_before p q

numbers_agree : AgreesOn number_before is_number
unfolding order_of
numbers_agree (plain.Bool a) (plain.Bool b) g h = refl
numbers_agree (plain.Bool a) (plain.Int n) g h = refl
numbers_agree (plain.Int m) (plain.Bool b) g h = refl
numbers_agree (plain.Int m) (plain.Int n) g h = refl
numbers_agree _ _ g h = cc

texts_agree : AgreesOn text_before is_text
unfolding order_of
texts_agree (plain.Text s) (plain.Text t) g h = refl
texts_agree _ _ g h = cc

module _ (lt : Plain → Plain → Bool) (test : Plain → Bool) (agrees : AgreesOn lt test) where
  all_of : (p : Plain) (ps : List Plain) → test p ≡ true → list_all test ps ≡ true → test p && list_all test ps ≡ true
  all_of p ps g h = λ i. g i && h i

  all_inserted : (p : Plain) (qs : List Plain) → test p ≡ true → list_all test qs ≡ true → list_all test (inserted p qs) ≡ true
  all_inserted p [] g h = all_of p [] g refl
  all_inserted p (q ∷ qs) g h =
      let both = and_parts (test q) (list_all test qs) h in
      chosen (λ l. list_all test l ≡ true) (q ∷ inserted p qs) (p ∷ q ∷ qs) (stands_before q p) (λ e. all_of q (inserted p qs) both.0 (all_inserted p qs g both.1)) (λ e. all_of p (q ∷ qs) g h)

  all_ordered : (ps : List Plain) → list_all test ps ≡ true → list_all test (in_order ps) ≡ true
  all_ordered [] h = refl
  all_ordered (p ∷ ps) h =
      let both = and_parts (test p) (list_all test ps) h in
      all_inserted p (in_order ps) both.0 (all_ordered ps both.1)

  same_inserted : (p : Plain) (qs : List Plain) → test p ≡ true → list_all test qs ≡ true → insert_by lt p qs ≡ inserted p qs
  same_inserted p [] g h = refl
  same_inserted p (q ∷ qs) g h =
      let both = and_parts (test q) (list_all test qs) h in
      ap (λ (b : Bool). elim b [ true ↦ q ∷ insert_by lt p qs | false ↦ p ∷ q ∷ qs ]) (agrees q p both.0 g)
      ∙ ap (λ (l : List Plain). elim (stands_before q p) [ true ↦ q ∷ l | false ↦ p ∷ q ∷ qs ]) (same_inserted p qs g both.1)

  pub same_order : (ps : List Plain) → list_all test ps ≡ true → order_by lt ps ≡ in_order ps
  same_order [] h = refl
  same_order (p ∷ ps) h =
      let both = and_parts (test p) (list_all test ps) h in
      ap (λ l. insert_by lt p l) (same_order ps both.1) ∙ same_inserted p (in_order ps) both.0 (all_ordered ps both.1)

pub numbers_order : (ps : List Plain) → list_all is_number ps ≡ true → order_by number_before ps ≡ in_order ps
numbers_order = same_order number_before is_number numbers_agree

pub texts_order : (ps : List Plain) → list_all is_text ps ≡ true → order_by text_before ps ≡ in_order ps
texts_order = same_order text_before is_text texts_agree
