-- Numbers alone, or texts alone, come in order.
use Rattle.std.proofs.Common.{◌≡◌, Bool, true, false, ◌||◌, List, map, Result, sym, ◌∙◌, ap, subst}
use Rattle.std.specs.List.{list_all}
use Rattle.rp_base.specs.declared.ends.OpEnd.{OpEnd}
use Rattle.rp_base.specs.declared.exceptions.Beyond.TheVariants as beyond
use Rattle.rp_base.specs.declared.plain.Plain.{Plain}
use Rattle.rp_base.specs.declared.value.Value.{Value}
use Rattle.rp_base.specs.declared.value.Value.TheVariants as value
use Rattle.py_store.specs.declared.cell.Cell.TheVariants as cell
use Rattle.side_trees.specs.Trees.{Stop}
use Rattle.language_rules.specs.Going.{RuleTree, gives_new}
use Rattle.language_rules.specs.Ordering.{in_order, is_number, is_text, sorted_plain}
use Rattle.item_sorting.specs.Sorting.{Makes}

abbrev row : List Plain → RuleTree
row ps = gives_new (cell.List (map (λ p. value.Plain p) ps))

either : (a b : Bool) → a ≡ true → a || b ≡ true
either a b h = λ i. h i || b

or_else : (a b : Bool) → a ≡ false → b ≡ true → a || b ≡ true
or_else a b g h = λ i. g i || h i

comes : (ps : List Plain) → list_all is_number ps || list_all is_text ps ≡ true → sorted_plain ps ≡ row (in_order ps)
comes ps h = ap (λ (b : Bool). elim b [ true ↦ row (in_order ps) | false ↦ Stop beyond.Order ]) h

made : (ps qs : List Plain) (r : Result (List Value) OpEnd) → list_all is_number ps || list_all is_text ps ≡ true → qs ≡ in_order ps → Makes (row qs) r → Makes (sorted_plain ps) r
made ps qs r h e m = subst (λ (t : RuleTree). Makes t r) (ap row e ∙ sym (comes ps h)) m

pub numbers_come : (ps qs : List Plain) (r : Result (List Value) OpEnd) → list_all is_number ps ≡ true → qs ≡ in_order ps → Makes (row qs) r → Makes (sorted_plain ps) r
numbers_come ps qs r h e m = made ps qs r (either (list_all is_number ps) (list_all is_text ps) h) e m

pub texts_come : (ps qs : List Plain) (r : Result (List Value) OpEnd) → list_all is_number ps ≡ false → list_all is_text ps ≡ true → qs ≡ in_order ps → Makes (row qs) r → Makes (sorted_plain ps) r
texts_come ps qs r g h e m = made ps qs r (or_else (list_all is_number ps) (list_all is_text ps) g h) e m
