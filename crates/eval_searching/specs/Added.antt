-- Additions of lists.
use Rattle.std.specs.Prelude.{◌+◌, ℕ, [], ◌∷◌, List, length}
use Rattle.rp_base.specs.declared.value.Value.{Value}
use Rattle.object_operations.specs.declared.operation.Operation.TheVariants as operation
use Rattle.object_operations.specs.declared.special.Special.TheVariants as special
use Rattle.side_trees.specs.Trees.{Return}
use Rattle.language_rules.specs.Codes.{AddItem}
use Rattle.language_rules.specs.Going.{RuleTree, operates}
use Rattle.language_rules.specs.PlainItems.{number}

-- how many items there are with so many more
abbrev pub length_behind : List Value → ℕ → ℕ
length_behind items n = length items + n

-- the other's item at a position
abbrev pub item_of_added : Value → ℕ → ℕ → List Value → RuleTree
item_of_added other n i made = operates (operation.Special other special.GetItem (number i ∷ [])) (λ a. AddItem other n i made a) (λ a. Return a)
