-- What a search in the values of a dict has come to.
use Rattle.std.specs.Prelude.{ℕ, suc, List, [], ◌∷◌, drop, Bool, true, false, Option, Some, None}
use Rattle.rp_base.specs.declared.value.Value.{Value}
use Rattle.side_trees.specs.Trees.{Return}
use Rattle.language_rules.specs.Codes.{Gives, ValuesNext}
use Rattle.language_rules.specs.Going.{RuleTree, none, nowhere}
use Rattle.language_rules.specs.Searching.{gives_position, values_from}
use Rattle.eval_searching.specs.Searched.{by_step, equal_step}
use Rattle.eval_searching.specs.declared.lists.Searched.{Searched}
use Rattle.eval_searching.specs.declared.lists.Searched.TheVariants as searched

-- behind a value in which the other is found, or not
abbrev pub after_value : ℕ → ℕ → ℕ → Value → List Value → Bool → RuleTree
after_value n shape i x es b = elim b [ true ↦ gives_position i | false ↦ values_from n shape (suc i) x es ]

-- the value at a position is compared, and those behind it are searched
abbrev pub value_asked : ℕ → ℕ → ℕ → Value → List Value → RuleTree
value_asked n shape i x [] = nowhere
value_asked n shape i x (e ∷ es) = by_step (equal_step x e) (λ r. ValuesNext n shape i x r) (after_value n shape i x es)

abbrev pub behind_value : ℕ → ℕ → ℕ → Value → List Value → Option Bool → RuleTree
behind_value n shape i x values (Some b) = after_value n shape i x (drop (suc i) values) b
behind_value n shape i x values None = value_asked n shape i x (drop i values)

-- the other is in no value; or in one at a position; or the value at a position has to be compared
abbrev pub left_of_values : ℕ → ℕ → Value → List Value → Searched → RuleTree
left_of_values n shape x values searched.Nowhere = Return (Gives none)
left_of_values n shape x values (searched.Found i) = gives_position i
left_of_values n shape x values (searched.Asked i) = value_asked n shape i x (drop i values)
