-- A side's own state: its cells, what it has printed, its texts, and what is under way.
use Rattle.std.specs.Prelude.{ℕ, zero, suc, ◌-◌, Bool, List, [], ◌∷◌, ◌++◌, length, slice_get, slice_set, Option, None}
use Rattle.py_ast.specs.declared.program.Program.{Program}
use Rattle.py_store.specs.declared.cell.Cell.{Cell}
use Rattle.host_api.specs.Modules.{Module}
-- An exception that code of a text and a scope is handling, and a class that a class statement made.
pub use Rattle.object_operations.specs.declared.under_way.Handling.{Handling}
pub use Rattle.object_operations.specs.declared.under_way.MadeClass.{MadeClass}

-- cells: cell n is the n-th. printed: the number of bytes printed. texts: in the order in which they were begun, numbered from 0.
-- handled: the exceptions being handled, innermost first. classes: what class statements made, the newest first. printing: the lists and dicts whose printing is under way, innermost first. modules: as handed in, with their states.
-- reads_script, reads_expression: the trees of the texts that are accepted, which never change.
pub record State : Type 0 where
  pub cells : List Cell
  pub printed : ℕ
  pub texts : List Program
  pub handled : List Handling
  pub classes : List MadeClass
  pub printing : List ℕ
  pub modules : List Module
  pub reads_script : List ℕ → Option Program
  pub reads_expression : List ℕ → Option Program

-- the cell of this number
abbrev pub cell_at : State → ℕ → Option Cell
cell_at s zero = None
cell_at s (suc n) = slice_get s.cells n

abbrev pub next_cell : State → ℕ
next_cell s = suc (length s.cells)

abbrev pub with_cell : Cell → State → State
with_cell c s = record s { cells = s.cells ++ (c ∷ []) }

abbrev pub set_cell : ℕ → Cell → State → State
set_cell n c s = record s { cells = slice_set s.cells (n - 1) c }

-- ---- the first cells: the namespace, the root, and a cell for each module

abbrev pub namespace_number : ℕ
namespace_number = 1

abbrev pub root_number : ℕ
root_number = 2

abbrev pub first_module_number : ℕ
first_module_number = 3
