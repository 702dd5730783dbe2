-- `__getitem__`, `__setitem__` and `__delitem__` of objects (Python Language Reference, "Emulating container types").
use Rattle.std.specs.Prelude.{ℕ, List, [], ◌∷◌, remove, slice_set, length, codes, Option, Some, None, option_map, ℤ, if◌then◌else◌}
use Rattle.rp_base.specs.declared.exceptions.Beyond.TheVariants as beyond
use Rattle.rp_base.specs.declared.plain.Plain.{Plain}
use Rattle.rp_base.specs.declared.plain.Plain.TheVariants as plain
use Rattle.rp_base.specs.declared.value.Value.{Value}
use Rattle.rp_base.specs.declared.value.Value.TheVariants as value
use Rattle.object_operations.specs.declared.special.Special.TheVariants as special
use Rattle.object_operations.specs.Names.{special_name}
use Rattle.py_store.specs.declared.cell.Binding.{Binding}
use Rattle.py_store.specs.declared.cell.Cell.{Cell}
use Rattle.py_store.specs.declared.cell.Cell.TheVariants as cell
use Rattle.py_store.specs.Bindings.{bound_value, with_binding, without_binding}
use Rattle.py_store.specs.EntryLists.{EntryList, entry_value}
use Rattle.side_trees.specs.Trees.{Return, Stop}
use Rattle.language_rules.specs.Answers.{gives}
use Rattle.language_rules.specs.Attributes.{calls_method}
use Rattle.language_rules.specs.Entries.{missing_key, on_key, puts_entry, takes_entry, by_entry, on_name, is_builtin_name}
use Rattle.language_rules.specs.Going.{RuleTree, done, sets_cell}
use Rattle.language_rules.specs.PlainItems.{out_of_range, no_items, on_index, gives_item, gives_item_of}
use Rattle.language_rules.specs.Ranges.{range_length, range_item}
use Rattle.language_rules.specs.TextFunctions.{as_int, place_among}

-- ---- reading

-- the item of a range at an index
abbrev pub item_of_range : ℤ → ℤ → ℤ → ℤ → Option Value
item_of_range start stop step n = option_map (λ k. value.Plain (plain.Int (range_item start step k))) (place_among (range_length start stop step) n)

-- the value of a dict under a key
abbrev pub entry_item : EntryList → Plain → RuleTree
entry_item entries key = by_entry gives (missing_key key) (entry_value key entries)

-- the value of a name in a namespace
abbrev pub name_item : List Binding → List ℕ → RuleTree
name_item names name = by_entry gives (missing_key (plain.Text name)) (bound_value name names)

-- `__getitem__`
abbrev pub get_item_rule : ℕ → Value → Cell → RuleTree
get_item_rule n key (cell.List items) = gives_item_of (codes "list") items key
get_item_rule n key (cell.Dict entries shape) = on_key (entry_item entries) key
get_item_rule n key (cell.Range start stop step) = on_index (λ k. gives_item (codes "range") (item_of_range start stop step k)) (as_int key)
get_item_rule n key (cell.Instance class_no attributes) = calls_method n (special_name special.GetItem) (key ∷ []) gives no_items
get_item_rule n key (cell.Namespace names reserved) = on_name reserved (name_item names) key
get_item_rule n key _ = no_items

-- ---- writing

-- a list with another item at a place, or without the item there
abbrev pub changes_list : ℕ → (ℕ → List Value) → Option ℕ → RuleTree
changes_list n items (Some k) = sets_cell n (cell.List (items k)) (Return done)
changes_list n items None = out_of_range (codes "list")

-- a name of the language is not bound
abbrev pub binds_item : ℕ → List Binding → List (List ℕ) → Value → List ℕ → RuleTree
binds_item n names reserved v name =
    if is_builtin_name name then Stop beyond.Name
    else sets_cell n (cell.Namespace (with_binding name v names) reserved) (Return done)

-- `__setitem__`; what a method gives is dropped
abbrev pub set_item_rule : ℕ → Value → Value → Cell → RuleTree
set_item_rule n key v (cell.List items) = on_index (λ z. changes_list n (λ k. slice_set items k v) (place_among (length items) z)) (as_int key)
set_item_rule n key v (cell.Dict entries shape) = on_key (λ k. puts_entry n entries shape k v (Return done)) key
set_item_rule n key v (cell.Instance class_no attributes) = calls_method n (special_name special.SetItem) (key ∷ v ∷ []) (λ answer. Return done) no_items
set_item_rule n key v (cell.Namespace names reserved) = on_name reserved (binds_item n names reserved v) key
set_item_rule n key v _ = no_items

-- ---- deleting

-- a dict loses a key that it has
abbrev pub deletes_entry : ℕ → EntryList → ℕ → Plain → RuleTree
deletes_entry n entries shape key = by_entry (λ old. takes_entry n entries shape key (Return done)) (missing_key key) (entry_value key entries)

-- a namespace loses a name that it has
abbrev pub unbinds_item : ℕ → List Binding → List (List ℕ) → List ℕ → RuleTree
unbinds_item n names reserved name =
    by_entry (λ old. sets_cell n (cell.Namespace (without_binding name names) reserved) (Return done)) (missing_key (plain.Text name)) (bound_value name names)

-- `__delitem__`; what a method gives is dropped
abbrev pub delete_item_rule : ℕ → Value → Cell → RuleTree
delete_item_rule n key (cell.List items) = on_index (λ z. changes_list n (remove items) (place_among (length items) z)) (as_int key)
delete_item_rule n key (cell.Dict entries shape) = on_key (deletes_entry n entries shape) key
delete_item_rule n key (cell.Instance class_no attributes) = calls_method n (special_name special.DelItem) (key ∷ []) (λ answer. Return done) no_items
delete_item_rule n key (cell.Namespace names reserved) = on_name reserved (unbinds_item n names reserved) key
delete_item_rule n key _ = no_items
