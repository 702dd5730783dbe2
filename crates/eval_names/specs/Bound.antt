-- What the binding of a name gives.
use Rattle.std.specs.Prelude.{ℕ, List, Option, Some, Result, Ok, Err}
use Rattle.std.specs.Bool.{⊤}
use Rattle.rp_base.specs.declared.ends.OpEnd.{OpEnd}
use Rattle.rp_base.specs.declared.value.Value.{Value}
use Rattle.py_store.specs.declared.cell.Cell.{Cell}
use Rattle.py_store.specs.declared.cell.Cell.TheVariants as cell
use Rattle.py_store.specs.Cells.{cell_of}
use Rattle.language_rules.specs.Going.{none}
use Rattle.language_rules.specs.States.{namespace_number}

-- as a statement that ends and goes on to the next, which gives None
abbrev pub as_done : Result (Unit {0}) OpEnd → Result Value OpEnd
as_done (Ok t) = Ok none
as_done (Err e) = Err e

abbrev pub IsScopeCell : Option Cell → Type 0
IsScopeCell (Some (cell.Scope names parent)) = ⊤
IsScopeCell _ = ⊥

-- the number names the variables of a call
abbrev pub IsScope : List Cell → ℕ → Type 0
IsScope cells number = IsScopeCell (cell_of cells number)

abbrev pub IsNamespaceCell : Option Cell → Type 0
IsNamespaceCell (Some (cell.Namespace names reserved)) = ⊤
IsNamespaceCell _ = ⊥

-- the first cell has a side's global names
abbrev pub IsNamespace : List Cell → Type 0
IsNamespace cells = IsNamespaceCell (cell_of cells namespace_number)
