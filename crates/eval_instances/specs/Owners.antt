-- Instances and classes, which have attributes of their own.
use Rattle.std.specs.Prelude.{ℕ, List, Option, Some}
use Rattle.std.specs.Bool.{⊤}
use Rattle.rp_base.specs.declared.value.Value.{Value}
use Rattle.py_store.specs.Bindings.{with_binding, without_binding}
use Rattle.py_store.specs.Cells.{cell_of}
use Rattle.py_store.specs.declared.cell.Cell.{Cell}
use Rattle.py_store.specs.declared.cell.Cell.TheVariants as cell

abbrev pub IsOwnerCell : Option Cell → Type 0
IsOwnerCell (Some (cell.Instance class_no attributes)) = ⊤
IsOwnerCell (Some (cell.Class name base attributes)) = ⊤
IsOwnerCell _ = ⊥

-- the number names an instance or a class
abbrev pub IsOwner : List Cell → ℕ → Type 0
IsOwner cells number = IsOwnerCell (cell_of cells number)

-- with an attribute of its own, and without it
abbrev pub with_own : List ℕ → Value → Cell → Cell
with_own name v (cell.Instance class_no attributes) = cell.Instance class_no (with_binding name v attributes)
with_own name v (cell.Class class_name base attributes) = cell.Class class_name base (with_binding name v attributes)
with_own name v c = c

abbrev pub without_own : List ℕ → Cell → Cell
without_own name (cell.Instance class_no attributes) = cell.Instance class_no (without_binding name attributes)
without_own name (cell.Class class_name base attributes) = cell.Class class_name base (without_binding name attributes)
without_own name c = c
