-- `__contains__` of objects (Python Language Reference, "Membership test operations").
use Rattle.std.specs.Prelude.{ℕ, Bool, true, false, ℤ, ◌∷◌, [], is_some, Option, Some, None}
use Rattle.rp_base.specs.declared.exceptions.Beyond.TheVariants as beyond
use Rattle.rp_base.specs.declared.plain.Plain.TheVariants as plain
use Rattle.rp_base.specs.declared.value.Value.{Value}
use Rattle.rp_base.specs.declared.value.Value.TheVariants as value
use Rattle.object_operations.specs.declared.special.Special.TheVariants as special
use Rattle.object_operations.specs.Names.{special_name}
use Rattle.py_store.specs.declared.cell.Cell.{Cell}
use Rattle.py_store.specs.declared.cell.Cell.TheVariants as cell
use Rattle.py_store.specs.declared.cell.Which.{Which}
use Rattle.py_store.specs.declared.cell.Which.TheVariants as view
use Rattle.py_store.specs.Bindings.{bound_value}
use Rattle.py_store.specs.EntryLists.{EntryList, entry_value}
use Rattle.side_trees.specs.Trees.{Stop, bind}
use Rattle.language_rules.specs.Answers.{gives}
use Rattle.language_rules.specs.Attributes.{calls_method, by_method}
use Rattle.language_rules.specs.Draining.{not_iterable}
use Rattle.language_rules.specs.Entries.{on_key, on_name}
use Rattle.language_rules.specs.Going.{RuleTree, boolean, nowhere, reads_cell, on_value}
use Rattle.language_rules.specs.Ranges.{range_has}
use Rattle.language_rules.specs.Searching.{searches_list, searches_values}
use Rattle.language_rules.specs.TextFunctions.{as_int}
use Rattle.language_rules.specs.Truth.{on_truth}

-- a search gives a place, or None
abbrev pub is_place : Value → Bool
is_place (value.Plain plain.None) = false
is_place _ = true

-- whether a search found something
abbrev pub gives_found : RuleTree → RuleTree
gives_found search = bind search (on_value (λ v. gives (boolean (is_place v))))

-- whether a dict has a key
abbrev pub gives_has_key : EntryList → Value → RuleTree
gives_has_key entries x = on_key (λ key. gives (boolean (is_some (entry_value key entries)))) x

-- whether a range has an int
abbrev pub gives_in_range : ℤ → ℤ → ℤ → Option ℤ → RuleTree
gives_in_range start stop step (Some x) = gives (boolean (range_has start stop step x))
gives_in_range start stop step None = Stop beyond.Compare

-- in a view of a dict
abbrev pub gives_in_view : ℕ → Value → Which → Cell → RuleTree
gives_in_view dict x view.Keys (cell.Dict entries shape) = gives_has_key entries x
gives_in_view dict x view.Values (cell.Dict entries shape) = gives_found (searches_values dict x)
gives_in_view dict x view.Items (cell.Dict entries shape) = Stop beyond.Compare
gives_in_view dict x _ _ = nowhere

-- an instance without this method would be gone over, where it can be
abbrev pub would_drain : ℕ → RuleTree
would_drain n = by_method n (special_name special.Iter) (Stop beyond.Drain) (by_method n (special_name special.GetItem) (Stop beyond.Drain) not_iterable)

-- `__contains__`
abbrev pub contains_rule : ℕ → Value → Cell → RuleTree
contains_rule n x (cell.List items) = gives_found (searches_list n x)
contains_rule n x (cell.Dict entries shape) = gives_has_key entries x
contains_rule n x (cell.View dict which) = reads_cell dict (gives_in_view dict x which)
contains_rule n x (cell.Range start stop step) = gives_in_range start stop step (as_int x)
contains_rule n x (cell.Instance class_no attributes) = calls_method n (special_name special.Contains) (x ∷ []) (λ v. on_truth v (λ b. gives (boolean b))) (would_drain n)
contains_rule n x (cell.Namespace names reserved) = on_name reserved (λ name. gives (boolean (is_some (bound_value name names)))) x
contains_rule n x _ = not_iterable
