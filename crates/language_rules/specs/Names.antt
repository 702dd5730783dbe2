-- Names: where each is looked up and bound (Python Language Reference, "Naming and binding").
use Rattle.std.specs.Prelude.{ℕ, zero, suc, List, Option, Some, None, if◌then◌else◌}
use Rattle.rp_base.specs.declared.exceptions.Beyond.TheVariants as beyond
use Rattle.rp_base.specs.declared.exceptions.ExcKind.TheVariants as kind
use Rattle.rp_base.specs.declared.value.Value.{Value}
use Rattle.py_ast.specs.declared.program.FunctionInfo.{FunctionInfo}
use Rattle.py_store.specs.Bindings.{bound_value, with_binding}
use Rattle.py_store.specs.declared.cell.Cell.{Cell}
use Rattle.py_store.specs.declared.cell.Cell.TheVariants as cell
use Rattle.side_trees.specs.Trees.{Stop}
use Rattle.language_rules.specs.Codes.{Env}
use Rattle.language_rules.specs.States.{State, cell_at, namespace_number}
use Rattle.language_rules.specs.Going.{RuleTree, nowhere, fails, looks, sets_cell}
use Rattle.language_rules.specs.Texts.{has_name, function_at}

-- ---- where a name is (Language Reference, "Resolution of names")

-- Own: a variable of the function that runs, in its scope. Outer: one of a function around it, in that one's scope. Global: any other name. Missing: no state comes to it.
pub data Place : Type 0 where
  Own : ℕ → Place
  Outer : ℕ → Place
  Global Missing : Place

-- the scope in which a scope was made
abbrev pub around : Option Cell → ℕ
around (Some (cell.Scope names parent)) = parent
around _ = zero

-- Of this function and those around it the first that has the name as its own, with its scope: the scope given is that of this function. The number in front only bounds the recursion: a function around another has a smaller number than that one.
abbrev pub outer_place : State → ℕ → List ℕ → ℕ → Option ℕ → ℕ → Place
outer_place s text name zero function scope = Missing
outer_place s text name (suc most) None scope = Missing
outer_place s text name (suc most) (Some f) scope =
    elim (function_at s text f) [
      | None ↦ Missing
      | Some info ↦ if has_name name info.locals then Outer scope else outer_place s text name most info.parent (around (cell_at s scope))
    ]

-- among the function's own names, else among those that it takes from functions around it, else global
abbrev pub place_in : State → Env → List ℕ → ℕ → Option FunctionInfo → Place
place_in s env name f None = Missing
place_in s env name f (Some info) =
    if has_name name info.locals then Own env.scope
    else (if has_name name info.free then outer_place s env.text name f info.parent (around (cell_at s env.scope)) else Global)

-- at the top of a text every name is global
abbrev pub place_by : State → Env → List ℕ → Option ℕ → Place
place_by s env name None = Global
place_by s env name (Some f) = place_in s env name f (function_at s env.text f)

-- where a name is, for the code that runs
abbrev pub place_of : State → Env → List ℕ → Place
place_of s env name = place_by s env name env.function

-- ---- reading

-- an exception whose argument is the name
abbrev pub unbound_local : List ℕ → RuleTree
unbound_local name = fails kind.UnboundLocalError name

abbrev pub unbound_name : List ℕ → RuleTree
unbound_name name = fails kind.NameError name

-- the value, or else what comes where the name is not bound
abbrev pub value_or : RuleTree → (Value → RuleTree) → Option Value → RuleTree
value_or missing f (Some v) = f v
value_or missing f None = missing

-- a variable of a call
abbrev pub reads_variable : List ℕ → RuleTree → (Value → RuleTree) → Option Cell → RuleTree
reads_variable name missing f (Some (cell.Scope names parent)) = value_or missing f (bound_value name names)
reads_variable name missing f _ = nowhere

-- a global name; one that a text uses after `as` is outside the subset
abbrev pub reads_global : List ℕ → (Value → RuleTree) → Option Cell → RuleTree
reads_global name f (Some (cell.Namespace names reserved)) = value_or (if has_name name reserved then Stop beyond.Name else unbound_name name) f (bound_value name names)
reads_global name f _ = nowhere

-- a name by its place: of the code's own variables an unbound one is UnboundLocalError, and of those around it NameError
abbrev pub reads_at : State → List ℕ → (Value → RuleTree) → Place → RuleTree
reads_at s name f (Own scope) = reads_variable name (unbound_local name) f (cell_at s scope)
reads_at s name f (Outer scope) = reads_variable name (unbound_name name) f (cell_at s scope)
reads_at s name f Global = reads_global name f (cell_at s namespace_number)
reads_at s name f Missing = nowhere

-- the value that the name stands for
abbrev pub reads_name : Env → List ℕ → (Value → RuleTree) → RuleTree
reads_name env name f = looks (λ s. reads_at s name f (place_of s env name))

-- ---- binding (Language Reference, "Binding of names")

-- a variable of a call is bound
abbrev pub binds_variable : ℕ → List ℕ → Value → RuleTree → Option Cell → RuleTree
binds_variable scope name v t (Some (cell.Scope names parent)) = sets_cell scope (cell.Scope (with_binding name v names) parent) t
binds_variable scope name v t _ = nowhere

-- a global name is bound; one that a text uses after `as` is outside the subset
abbrev pub binds_global : List ℕ → Value → RuleTree → Option Cell → RuleTree
binds_global name v t (Some (cell.Namespace names reserved)) =
    if has_name name reserved then Stop beyond.Name
    else sets_cell namespace_number (cell.Namespace (with_binding name v names) reserved) t
binds_global name v t _ = nowhere

-- a name is bound at its place
abbrev pub binds_at : State → List ℕ → Value → RuleTree → Place → RuleTree
binds_at s name v t (Own scope) = binds_variable scope name v t (cell_at s scope)
binds_at s name v t (Outer scope) = binds_variable scope name v t (cell_at s scope)
binds_at s name v t Global = binds_global name v t (cell_at s namespace_number)
binds_at s name v t Missing = nowhere

-- the name stands for the value from now on
abbrev pub binds_name : Env → List ℕ → Value → RuleTree → RuleTree
binds_name env name v t = looks (λ s. binds_at s name v t (place_of s env name))
