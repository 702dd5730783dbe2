-- Methods of a namespace (RPyC's `SlaveService`, whose `namespace` is a dict).
use Rattle.std.specs.Prelude.{ℕ, List, [], ◌∷◌}
use Rattle.rp_base.specs.declared.exceptions.Beyond.TheVariants as beyond
use Rattle.rp_base.specs.declared.value.Value.{Value}
use Rattle.object_operations.specs.declared.method.BuiltinMethod.{BuiltinMethod}
use Rattle.object_operations.specs.declared.method.BuiltinMethod.TheVariants as method
use Rattle.py_store.specs.declared.cell.Binding.{Binding}
use Rattle.py_store.specs.Bindings.{bound_value}
use Rattle.side_trees.specs.Trees.{Stop}
use Rattle.language_rules.specs.Answers.{gives}
use Rattle.language_rules.specs.Entries.{on_name, by_entry}
use Rattle.language_rules.specs.Going.{RuleTree, none}

-- the value of a name, or else this one
abbrev pub gets_name : List Binding → Value → List ℕ → RuleTree
gets_name names otherwise name = by_entry gives (gives otherwise) (bound_value name names)

-- by the number of arguments
abbrev pub namespace_method : List Binding → List (List ℕ) → BuiltinMethod → List Value → RuleTree
namespace_method names reserved method.Get (key ∷ []) = on_name reserved (gets_name names none) key
namespace_method names reserved method.Get (key ∷ otherwise ∷ []) = on_name reserved (gets_name names otherwise) key
namespace_method names reserved _ arguments = Stop beyond.Arguments
