-- Which cells are dicts, and which operations on them draw no items and ask nothing.
use Rattle.std.specs.Prelude.{ℕ, List, Option, Some}
use Rattle.std.specs.Bool.{⊤}
use Rattle.object_operations.specs.declared.method.BuiltinMethod.{BuiltinMethod}
use Rattle.object_operations.specs.declared.method.BuiltinMethod.TheVariants as method
use Rattle.object_operations.specs.declared.special.Special.{Special}
use Rattle.object_operations.specs.declared.special.Special.TheVariants as special
use Rattle.py_store.specs.declared.cell.Cell.{Cell}
use Rattle.py_store.specs.declared.cell.Cell.TheVariants as cell
use Rattle.py_store.specs.declared.cell.Which.{Which}
use Rattle.py_store.specs.declared.cell.Which.TheVariants as view
use Rattle.py_store.specs.Cells.{cell_of}

abbrev pub IsDictCell : Option Cell → Type 0
IsDictCell (Some (cell.Dict entries shape)) = ⊤
IsDictCell _ = ⊥

-- the number names a dict
abbrev pub IsDict : List Cell → ℕ → Type 0
IsDict cells number = IsDictCell (cell_of cells number)

-- a method that makes no view
abbrev pub IsDirect : BuiltinMethod → Type 0
IsDirect method.Clear = ⊤
IsDirect method.Get = ⊤
IsDirect method.Pop = ⊤
IsDirect method.SetDefault = ⊤
IsDirect _ = ⊥

-- the method that gives this view
abbrev pub view_method : Which → BuiltinMethod
view_method view.Keys = method.Keys
view_method view.Values = method.Values
view_method view.Items = method.Items

-- an operation that only reads the dict
abbrev pub IsReading : Special → Type 0
IsReading special.Len = ⊤
IsReading special.Bool = ⊤
IsReading special.GetItem = ⊤
IsReading special.Contains = ⊤
IsReading _ = ⊥

-- an operation that changes it
abbrev pub IsChanging : Special → Type 0
IsChanging special.SetItem = ⊤
IsChanging special.DelItem = ⊤
IsChanging _ = ⊥
