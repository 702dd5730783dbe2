-- What an operation on a list answers, and what it makes of the list.
use Rattle.std.specs.Prelude.{ℕ, List, [], ◌∷◌, Option, Some, Result}
use Rattle.std.specs.Bool.{⊤}
use Rattle.rp_base.specs.declared.ends.OpEnd.{OpEnd}
use Rattle.rp_base.specs.declared.value.Value.{Value}
use Rattle.object_operations.specs.declared.method.BuiltinMethod.{BuiltinMethod}
use Rattle.object_operations.specs.declared.method.BuiltinMethod.TheVariants as method
use Rattle.object_operations.specs.declared.special.Special.{Special}
use Rattle.object_operations.specs.declared.special.Special.TheVariants as special
use Rattle.py_store.specs.declared.cell.Cell.{Cell}
use Rattle.py_store.specs.declared.cell.Cell.TheVariants as cell
use Rattle.py_store.specs.Cells.{cell_of}
use Rattle.language_rules.specs.AtOnce.{Comes}
use Rattle.language_rules.specs.Going.{RuleTree}
use Rattle.language_rules.specs.States.{State, set_cell}

-- In every state, under every number: the computation of that number ends as the answer tells. A value comes with these items in the cell, and all else is kept; any other end keeps all.
abbrev pub ChangesList : (ℕ → RuleTree) → Result Value OpEnd → List Value → Type 0
ChangesList t answer after = (n : ℕ) (s : State) → Comes (t n) s answer (set_cell n (cell.List after) s) s

abbrev pub IsListCell : Option Cell → Type 0
IsListCell (Some (cell.List items)) = ⊤
IsListCell _ = ⊥

-- the number names a list
abbrev pub IsList : List Cell → ℕ → Type 0
IsList cells number = IsListCell (cell_of cells number)

-- a method that neither searches nor drains
abbrev pub IsDirect : BuiltinMethod → Type 0
IsDirect method.Append = ⊤
IsDirect method.Clear = ⊤
IsDirect method.Insert = ⊤
IsDirect method.Pop = ⊤
IsDirect method.Reverse = ⊤
IsDirect _ = ⊥

-- an operation that only reads the list, with its number of arguments
abbrev pub IsReading : Special → List Value → Type 0
IsReading special.Len [] = ⊤
IsReading special.Bool [] = ⊤
IsReading special.GetItem (key ∷ []) = ⊤
IsReading _ _ = ⊥

-- an operation that changes it, with its number of arguments
abbrev pub IsChanging : Special → List Value → Type 0
IsChanging special.SetItem (key ∷ item ∷ []) = ⊤
IsChanging special.DelItem (key ∷ []) = ⊤
IsChanging _ _ = ⊥
