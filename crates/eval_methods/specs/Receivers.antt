-- Which cells have methods of a builtin kind.
use Rattle.std.specs.Prelude.{◌≡◌, ℕ, List, Option}
use Rattle.std.specs.Bool.{⊤}
use Rattle.rp_base.specs.declared.value.Value.{Value}
use Rattle.object_operations.specs.declared.method.BuiltinMethod.{BuiltinMethod}
use Rattle.py_dicts.specs.DictCells.{IsDictCell}
use Rattle.py_lists.specs.Lists.{IsListCell}
use Rattle.py_store.specs.Cells.{cell_of}
use Rattle.py_store.specs.declared.cell.Cell.{Cell}
use Rattle.language_rules.specs.Calls.{method_of_cell}
use Rattle.language_rules.specs.Going.{nowhere, on_cell}
use Rattle.eval_methods.specs.declared.calling.Receiver.{Receiver}
use Rattle.eval_methods.specs.declared.calling.Receiver.TheVariants as receiver

-- what a cell is, as far as its methods go; of a shared cell nothing is told
abbrev pub IsReceiverCell : Option Cell → Receiver → Type 0
IsReceiverCell o receiver.List = IsListCell o
IsReceiverCell o receiver.Dict = IsDictCell o
IsReceiverCell o receiver.Shared = ⊤
IsReceiverCell o receiver.Other = (n : ℕ) (m : BuiltinMethod) (arguments : List Value) → on_cell (method_of_cell n m arguments) o ≡ nowhere

abbrev pub IsReceiver : List Cell → ℕ → Receiver → Type 0
IsReceiver cells number r = IsReceiverCell (cell_of cells number) r
