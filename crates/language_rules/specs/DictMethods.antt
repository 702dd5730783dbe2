-- Methods of dicts (Python Library Reference, "Mapping Types").
use Rattle.std.specs.Prelude.{ℕ, List, [], ◌∷◌}
use Rattle.rp_base.specs.declared.exceptions.Beyond.TheVariants as beyond
use Rattle.rp_base.specs.declared.plain.Plain.{Plain}
use Rattle.rp_base.specs.declared.value.Value.{Value}
use Rattle.object_operations.specs.declared.method.BuiltinMethod.{BuiltinMethod}
use Rattle.object_operations.specs.declared.method.BuiltinMethod.TheVariants as method
use Rattle.py_store.specs.declared.cell.Cell.TheVariants as cell
use Rattle.py_store.specs.declared.cell.Which.TheVariants as view
use Rattle.py_store.specs.EntryLists.{EntryList, entry_value}
use Rattle.side_trees.specs.Trees.{Return, Stop}
use Rattle.language_rules.specs.Answers.{gives}
use Rattle.language_rules.specs.Entries.{missing_key, one_more, on_key, by_entry, puts_entry, takes_entry}
use Rattle.language_rules.specs.Going.{RuleTree, none, done, sets_cell, gives_new}

-- the value under a key, or else this one
abbrev pub gets_entry : EntryList → Value → Plain → RuleTree
gets_entry entries otherwise key = by_entry gives (gives otherwise) (entry_value key entries)

-- the value under a key, which is taken out, or else what comes where the key is missing
abbrev pub pops_entry : ℕ → EntryList → ℕ → (Plain → RuleTree) → Plain → RuleTree
pops_entry n entries shape missing key = by_entry (λ v. takes_entry n entries shape key (gives v)) (missing key) (entry_value key entries)

-- the value under a key, or else this one, which the dict gets
abbrev pub keeps_entry : ℕ → EntryList → ℕ → Value → Plain → RuleTree
keeps_entry n entries shape otherwise key = by_entry gives (puts_entry n entries shape key otherwise (gives otherwise)) (entry_value key entries)

-- no key is left; an empty dict keeps its shape
abbrev pub clears : ℕ → EntryList → ℕ → RuleTree
clears n [] shape = Return done
clears n entries shape = sets_cell n (cell.Dict [] (one_more shape)) (Return done)

-- ---- the methods, with the dict's entries as they are at the call

-- by the method and the number of its arguments
abbrev pub dict_method : ℕ → EntryList → ℕ → BuiltinMethod → List Value → RuleTree
dict_method n entries shape method.Clear [] = clears n entries shape
dict_method n entries shape method.Get (key ∷ []) = on_key (gets_entry entries none) key
dict_method n entries shape method.Get (key ∷ otherwise ∷ []) = on_key (gets_entry entries otherwise) key
dict_method n entries shape method.Items [] = gives_new (cell.View n view.Items)
dict_method n entries shape method.Keys [] = gives_new (cell.View n view.Keys)
dict_method n entries shape method.Pop (key ∷ []) = on_key (pops_entry n entries shape missing_key) key
dict_method n entries shape method.Pop (key ∷ otherwise ∷ []) = on_key (pops_entry n entries shape (λ k. gives otherwise)) key
dict_method n entries shape method.SetDefault (key ∷ otherwise ∷ []) = on_key (keeps_entry n entries shape otherwise) key
dict_method n entries shape method.Values [] = gives_new (cell.View n view.Values)
dict_method n entries shape _ arguments = Stop beyond.Arguments
