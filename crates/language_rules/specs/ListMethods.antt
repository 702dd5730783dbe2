-- Methods of lists (Python Library Reference, "Mutable Sequence Types").
use Rattle.std.specs.Prelude.{ℕ, suc, ◌-◌, ℤ, pos, negsuc, List, [], ◌∷◌, ◌++◌, length, min, insert, remove, reverse, slice_get, codes, Option, Some, None, if◌then◌else◌}
use Rattle.rp_base.specs.declared.exceptions.Beyond.TheVariants as beyond
use Rattle.rp_base.specs.declared.exceptions.ExcKind.TheVariants as exception
use Rattle.rp_base.specs.declared.plain.Plain.TheVariants as plain
use Rattle.rp_base.specs.declared.value.Value.{Value}
use Rattle.rp_base.specs.declared.value.Value.TheVariants as value
use Rattle.py_plain.specs.Arithmetic.{is_count}
use Rattle.object_operations.specs.declared.method.BuiltinMethod.{BuiltinMethod}
use Rattle.object_operations.specs.declared.method.BuiltinMethod.TheVariants as method
use Rattle.py_store.specs.declared.cell.Cell.TheVariants as cell
use Rattle.side_trees.specs.Trees.{Return, Stop, bind}
use Rattle.language_rules.specs.Answers.{gives}
use Rattle.language_rules.specs.Arithmetic.{extends}
use Rattle.language_rules.specs.Entries.{within_items}
use Rattle.language_rules.specs.Going.{RuleTree, done, nowhere, fails, sets_cell, on_value}
use Rattle.language_rules.specs.PlainItems.{out_of_range}
use Rattle.language_rules.specs.Searching.{reads_list, searches_list, gives_position}
use Rattle.language_rules.specs.TextFunctions.{as_int, place_among}

-- a list with other items, and None as the answer
abbrev pub becomes : ℕ → List Value → RuleTree
becomes n items = sets_cell n (cell.List items) (Return done)

-- ---- positions

-- on with a position, which is an int of 64 bits; a bool counts as one
abbrev pub on_position : (ℤ → RuleTree) → Option ℤ → RuleTree
on_position f (Some z) = if is_count z then f z else Stop beyond.Int
on_position f None = Stop beyond.Arguments

-- the place in front of which an item is put: a negative position counts from the end, and one outside stands for the nearest end
abbrev pub nearest_place : ℕ → ℤ → ℕ
nearest_place size (pos k) = min k size
nearest_place size (negsuc k) = size - suc k

-- `insert`: a list of one item more is within the limit
abbrev pub inserts : ℕ → List Value → Value → ℤ → RuleTree
inserts n items x z = within_items (suc (length items)) (becomes n (insert items (nearest_place (length items) z) x))

-- the item at a place is taken out, and is the answer
abbrev pub takes_out : ℕ → List Value → ℕ → Option Value → RuleTree
takes_out n items k (Some v) = sets_cell n (cell.List (remove items k)) (gives v)
takes_out n items k None = nowhere

-- `pop` at a place that the list has
abbrev pub pops_place : ℕ → List Value → Option ℕ → RuleTree
pops_place n items (Some k) = takes_out n items k (slice_get items k)
pops_place n items None = out_of_range (codes "list")

-- `pop`: an empty list has nothing to take out
abbrev pub pops : ℕ → List Value → ℤ → RuleTree
pops n [] z = fails exception.IndexError (codes "pop from empty list")
pops n items z = pops_place n items (place_among (length items) z)

-- ---- searching

-- a search found nothing
abbrev pub not_in_list : RuleTree
not_in_list = fails exception.ValueError (codes "not in list")

-- on with the place that a search found
abbrev pub on_place : (ℕ → RuleTree) → Value → RuleTree
on_place f (value.Plain (plain.Int (pos k))) = f k
on_place f _ = not_in_list

-- ---- the methods, with the list's items as they are at the call; what `remove` found is taken out of the list as it is then

-- by the method and the number of its arguments
abbrev pub list_method : ℕ → List Value → BuiltinMethod → List Value → RuleTree
list_method n items method.Append (x ∷ []) = within_items (suc (length items)) (becomes n (items ++ (x ∷ [])))
list_method n items method.Clear [] = becomes n []
list_method n items method.Extend (x ∷ []) = extends n x (Return done)
list_method n items method.Index (x ∷ []) = bind (searches_list n x) (on_value (on_place gives_position))
list_method n items method.Insert (position ∷ x ∷ []) = on_position (inserts n items x) (as_int position)
list_method n items method.Pop [] = pops n items (negsuc 0)
list_method n items method.Pop (position ∷ []) = on_position (pops n items) (as_int position)
list_method n items method.Remove (x ∷ []) = bind (searches_list n x) (on_value (on_place (λ k. reads_list n (λ now. becomes n (remove now k)))))
list_method n items method.Reverse [] = becomes n (reverse items)
list_method n items _ arguments = Stop beyond.Arguments
