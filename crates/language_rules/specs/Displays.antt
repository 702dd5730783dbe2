-- Lists and dicts that are made of values at hand (Python Language Reference, "List displays", "Dictionary displays").
use Rattle.std.specs.Prelude.{nat_lt, List, [], ◌∷◌, length, Option, Some, None, if◌then◌else◌}
use Rattle.rp_base.specs.declared.exceptions.Beyond.TheVariants as beyond
use Rattle.rp_base.specs.declared.value.Value.{Value}
use Rattle.rp_base.specs.declared.value.Value.TheVariants as value
use Rattle.py_store.specs.declared.cell.Cell.TheVariants as cell
use Rattle.py_store.specs.EntryLists.{EntryList, with_entry}
use Rattle.side_trees.specs.Trees.{Stop}
use Rattle.language_rules.specs.Draining.{most_items}
use Rattle.language_rules.specs.Going.{RuleTree, gives_new}

-- a new list of these items
abbrev pub new_list : List Value → RuleTree
new_list vs = if nat_lt most_items (length vs) then Stop beyond.Size else gives_new (cell.List vs)

-- keys and values in turn, as the entries of a dict: a later equal key keeps the first spelling and place; none where a key is not plain
abbrev pub entries_with : EntryList → List Value → Option EntryList
entries_with entries [] = Some entries
entries_with entries (value.Plain key ∷ v ∷ vs) = entries_with (with_entry key v entries) vs
entries_with entries _ = None

-- a new dict of these entries, which has as many items at most as a list
abbrev pub new_dict : Option EntryList → RuleTree
new_dict None = Stop beyond.Key
new_dict (Some entries) = if nat_lt most_items (length entries) then Stop beyond.Size else gives_new (cell.Dict entries 0)
