-- What is asked of an object by its name (RPyC's module `protocol`, `_handle_callattr` and `_handle_inspect`).
use Rattle.std.specs.Prelude.{ℕ, Bool, true, false, List, [], ◌∷◌, map, filter, flat_map, Option, Some, if◌then◌else◌}
use Rattle.std.specs.Str.{bytes_eq}
use Rattle.rp_base.specs.declared.identity.Kind.{Kind}
use Rattle.rp_base.specs.declared.identity.Kind.TheVariants as kind
use Rattle.rp_base.specs.declared.plain.Plain.TheVariants as plain
use Rattle.rp_base.specs.declared.value.Value.{Value}
use Rattle.rp_base.specs.declared.value.Value.TheVariants as value
use Rattle.rp_base.specs.Values.{tuple_of}
use Rattle.object_operations.specs.declared.operation.Operation.TheVariants as operation
use Rattle.object_operations.specs.declared.special.Special.TheVariants as special
use Rattle.object_operations.specs.Names.{special_name, method_name, list_methods, dict_methods, namespace_methods, root_methods}
use Rattle.py_store.specs.declared.cell.Binding.{Binding}
use Rattle.py_store.specs.declared.cell.Cell.{Cell}
use Rattle.py_store.specs.declared.cell.Cell.TheVariants as cell
use Rattle.py_store.specs.Attributes.{own_attributes, lineage}
use Rattle.py_store.specs.Cells.{cell_of}
use Rattle.side_trees.specs.Trees.{bind}
use Rattle.language_rules.specs.Answers.{asked, tuple_answers}
use Rattle.language_rules.specs.Attributes.{get_attribute}
use Rattle.language_rules.specs.Going.{RuleTree, looks, reads_cell, on_value}
use Rattle.language_rules.specs.Kinds.{kind_of, on_kind}
use Rattle.language_rules.specs.Perform.{special_rule}
use Rattle.language_rules.specs.States.{State}
use Rattle.language_rules.specs.Texts.{has_name}

-- whether it is `getmodule` of a root, which is an operation and no attribute
abbrev pub is_root_operation : List ℕ → Option Kind → Bool
is_root_operation name (Some kind.Root) = bytes_eq name (special_name special.GetModule)
is_root_operation name _ = false

-- an attribute and then its call: the attribute's unit is that of the request, and the call is an operation of its own
abbrev pub attribute_then_call : Value → List ℕ → List Value → RuleTree
attribute_then_call receiver name arguments = bind (get_attribute receiver name) (on_value (λ callee. asked (operation.Call callee arguments)))

-- a call of an attribute that has no special name
abbrev pub attribute_call_rule : Value → List ℕ → List Value → RuleTree
attribute_call_rule receiver name arguments =
    on_kind receiver (λ k. if is_root_operation name k then special_rule special.GetModule receiver arguments else attribute_then_call receiver name arguments)

-- ---- the methods of an object

-- whether a value refers to a function, wherever that lives
abbrev pub is_function : Option Kind → Bool
is_function (Some kind.Function) = true
is_function _ = false

-- the attributes of an instance, its class and the base, or of a class and its base, in the order of the search
abbrev pub all_attributes : State → ℕ → List Binding
all_attributes s n = flat_map (λ holder. own_attributes (cell_of s.cells holder)) (lineage s.cells n)

-- the first of each name, where these names were met before
abbrev pub first_of_each : List (List ℕ) → List Binding → List Binding
first_of_each met [] = []
first_of_each met (b ∷ bs) = if has_name b.name met then first_of_each met bs else b ∷ first_of_each (b.name ∷ met) bs

-- the names under which functions are found
abbrev pub function_names : State → ℕ → List (List ℕ)
function_names s n = map (λ b. b.name) (filter (λ b. is_function (kind_of s b.value)) (first_of_each [] (all_attributes s n)))

-- the names of an object's methods, in the order of their table
abbrev pub method_names : State → ℕ → Cell → List (List ℕ)
method_names s n (cell.Instance class_no attributes) = function_names s n
method_names s n (cell.Class name base attributes) = function_names s n
method_names s n (cell.List items) = map method_name list_methods
method_names s n (cell.Dict entries shape) = map method_name dict_methods
method_names s n (cell.Namespace names reserved) = map method_name namespace_methods
method_names s n cell.Root = map method_name root_methods
method_names s n _ = []

-- a method with its documentation, which it has none of
abbrev pub shown_method : List ℕ → Value
shown_method name = value.Plain (plain.Tuple (plain.Text name ∷ plain.None ∷ []))

-- the methods of the cell of this number
abbrev pub inspect_rule : ℕ → RuleTree
inspect_rule n = reads_cell n (λ c. looks (λ s. tuple_answers (tuple_of (map shown_method (method_names s n c)))))
