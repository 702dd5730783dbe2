-- The builtin functions that order or add up what they are given: `min`, `max`, `sum`, `sorted` (Python Library Reference, "Built-in Functions").
use Rattle.std.specs.Prelude.{Bool, true, false, ◌||◌, ℤ, pos, ◌+ℤ◌, List, [], ◌∷◌, map, codes, Option, Some, None, option_map, Result, Ok, Err}
use Rattle.std.specs.List.{list_all}
use Rattle.rp_base.specs.declared.exceptions.Beyond.TheVariants as beyond
use Rattle.rp_base.specs.declared.exceptions.ExcKind.TheVariants as exception
use Rattle.rp_base.specs.declared.operators.CmpOp.{CmpOp}
use Rattle.rp_base.specs.declared.operators.CmpOp.TheVariants as cmp
use Rattle.rp_base.specs.declared.plain.Plain.{Plain}
use Rattle.rp_base.specs.declared.plain.Plain.TheVariants as plain
use Rattle.rp_base.specs.declared.value.Value.{Value}
use Rattle.rp_base.specs.declared.value.Value.TheVariants as value
use Rattle.rp_base.specs.Values.{plains_of}
use Rattle.py_ints.specs.IntTexts.{fits}
use Rattle.py_plain.specs.declared.ends.PlainEnd.{PlainEnd}
use Rattle.py_plain.specs.Comparing.{order_of, compared, holds}
use Rattle.py_store.specs.declared.cell.Cell.TheVariants as cell
use Rattle.side_trees.specs.Trees.{Return, Stop}
use Rattle.language_rules.specs.Codes.{Gives}
use Rattle.language_rules.specs.Going.{RuleTree, fails, gives_new}
use Rattle.language_rules.specs.Answers.{answers}
use Rattle.language_rules.specs.TextFunctions.{as_int}

-- ---- the least and the greatest

-- The first item, or the last of those that each stood before the best so far: `<` is asked for the least, `>` for the greatest, so that the first of equals stays.
abbrev pub best_of : CmpOp → Plain → List Plain → Result Plain PlainEnd
best_of o best [] = Ok best
best_of o best (p ∷ ps) = elim (compared o p best) [ Ok true ↦ best_of o p ps | Ok false ↦ best_of o best ps | Err e ↦ Err e ]

abbrev pub best_plain : CmpOp → List Plain → RuleTree
best_plain o [] = fails exception.ValueError (codes "empty sequence")
best_plain o (p ∷ ps) = answers (best_of o p ps)

-- all items are plain, which is judged before they are compared
abbrev pub gives_best : CmpOp → List Value → RuleTree
gives_best o items = elim (plains_of items) [ Some ps ↦ best_plain o ps | None ↦ Stop beyond.Order ]

-- ---- the sum

-- the ints that these are, where all are ints or bools
abbrev pub all_ints : List Value → Option (List ℤ)
all_ints [] = Some []
all_ints (v ∷ vs) = elim (as_int v) [ Some z ↦ option_map (λ zs. z ∷ zs) (all_ints vs) | None ↦ None ]

-- each partial sum is an int
abbrev pub adds_up : ℤ → List ℤ → RuleTree
adds_up sum [] = Return (Gives (value.Plain (plain.Int sum)))
adds_up sum (z ∷ zs) = elim (fits (sum +ℤ z)) [ true ↦ adds_up (sum +ℤ z) zs | false ↦ Stop beyond.Int ]

abbrev pub gives_sum : List Value → RuleTree
gives_sum items = elim (all_ints items) [ Some zs ↦ adds_up (pos 0) zs | None ↦ Stop beyond.Order ]

-- ---- the items in order

abbrev pub is_number : Plain → Bool
is_number (plain.Bool b) = true
is_number (plain.Int z) = true
is_number _ = false

abbrev pub is_text : Plain → Bool
is_text (plain.Text t) = true
is_text _ = false

-- whether an item stands before another
abbrev pub stands_before : Plain → Plain → Bool
stands_before p q = elim (order_of p q) [ Some o ↦ holds cmp.Lt o | None ↦ false ]

-- an item among items in order: behind those that stand before it, and in front of its equals
abbrev pub inserted : Plain → List Plain → List Plain
inserted p [] = p ∷ []
inserted p (q ∷ qs) = elim (stands_before q p) [ true ↦ q ∷ inserted p qs | false ↦ p ∷ q ∷ qs ]

-- The items in order. Each goes among the later ones, in front of its equals, so equals keep their order.
abbrev pub in_order : List Plain → List Plain
in_order [] = []
in_order (p ∷ ps) = inserted p (in_order ps)

abbrev pub sorted_plain : List Plain → RuleTree
sorted_plain ps = elim (list_all is_number ps || list_all is_text ps) [ true ↦ gives_new (cell.List (map (λ p. value.Plain p) (in_order ps))) | false ↦ Stop beyond.Order ]

abbrev pub gives_sorted : List Value → RuleTree
gives_sorted items = elim (plains_of items) [ Some ps ↦ sorted_plain ps | None ↦ Stop beyond.Order ]
