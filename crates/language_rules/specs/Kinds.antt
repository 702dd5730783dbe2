-- The kinds of objects (Python Language Reference, "Objects, values and types"; for those of the other side, RPyC's module `netref`).
use Rattle.std.specs.Prelude.{Bool, true, false, Option, Some, None}
use Rattle.rp_base.specs.declared.identity.Kind.{Kind}
use Rattle.rp_base.specs.declared.identity.Kind.TheVariants as kind
use Rattle.rp_base.specs.declared.value.Value.{Value}
use Rattle.rp_base.specs.declared.value.Value.TheVariants as value
use Rattle.rp_base.specs.Identity.{kind_named}
use Rattle.py_store.specs.declared.cell.Cell.{Cell}
use Rattle.py_store.specs.declared.cell.Cell.TheVariants as cell
use Rattle.language_rules.specs.States.{State, cell_at}
use Rattle.language_rules.specs.Going.{RuleTree, looks}

-- the kind of a cell; no value refers to the variables of a call
abbrev pub kind_of_cell : Cell → Option Kind
kind_of_cell (cell.List items) = Some kind.List
kind_of_cell (cell.Dict entries shape) = Some kind.Dict
kind_of_cell (cell.Scope names parent) = None
kind_of_cell (cell.Namespace names reserved) = Some kind.Namespace
kind_of_cell (cell.Function text function scope) = Some kind.Function
kind_of_cell (cell.Class name base attributes) = Some kind.Class
kind_of_cell (cell.Instance class_no attributes) = Some kind.Instance
kind_of_cell (cell.Bound receiver method) = Some kind.Bound
kind_of_cell (cell.Iter source at shape) = Some kind.Iter
kind_of_cell (cell.View dict which) = Some kind.View
kind_of_cell (cell.Range start stop step) = Some kind.Range
kind_of_cell (cell.Host host) = Some kind.Host
kind_of_cell (cell.HostFunc host name) = Some kind.HostFunc
kind_of_cell (cell.Conn root namespace modules) = Some kind.Conn
kind_of_cell (cell.Modules root) = Some kind.Modules
kind_of_cell cell.Root = Some kind.Root

-- the kind of the cell of a number
abbrev pub kind_there : Option Cell → Option Kind
kind_there (Some c) = kind_of_cell c
kind_there None = None

-- the kind of the object that a value refers to, in a state; what is no reference has none
abbrev pub kind_of : State → Value → Option Kind
kind_of s (value.Own n) = kind_there (cell_at s n)
kind_of s (value.Proxy id) = Some (kind_named id.name id.inst_no)
kind_of s _ = None

-- on with the kind of a value: only that of an own cell is looked up
abbrev pub on_kind : Value → (Option Kind → RuleTree) → RuleTree
on_kind (value.Own n) f = looks (λ s. f (kind_there (cell_at s n)))
on_kind (value.Proxy id) f = f (Some (kind_named id.name id.inst_no))
on_kind _ f = f None

-- whether a value is a reference
abbrev pub is_reference : Value → Bool
is_reference (value.Own n) = true
is_reference (value.Proxy id) = true
is_reference _ = false
