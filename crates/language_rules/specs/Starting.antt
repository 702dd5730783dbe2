-- A side at its start, and how its script begins.
use Rattle.std.specs.Prelude.{ℕ, suc, List, [], ◌∷◌, codes, Option, Some}
use Rattle.rp_base.specs.declared.value.Value.TheVariants as value
use Rattle.py_ast.specs.declared.program.Program.{Program}
use Rattle.py_store.specs.declared.cell.Cell.{Cell}
use Rattle.py_store.specs.declared.cell.Cell.TheVariants as cell
use Rattle.host_api.specs.Modules.{Module}
use Rattle.object_operations.specs.declared.operation.Operation.TheVariants as operation
use Rattle.language_rules.specs.Going.{RuleTree, none, makes, sets_cell, asks, reads_cell}
use Rattle.language_rules.specs.Names.{binds_global}
use Rattle.language_rules.specs.Programs.{begins_text}
use Rattle.language_rules.specs.States.{State, namespace_number}

-- what texts are accepted as: scripts, and single expressions
pub record Reader : Type 0 where
  pub script : List ℕ → Option Program
  pub expression : List ℕ → Option Program

-- the cells of modules, by their places
abbrev pub host_cells : ℕ → List Module → List Cell
host_cells at [] = []
host_cells at (m ∷ ms) = cell.Host at ∷ host_cells (suc at) ms

-- A side begins with its namespace, its root, and a cell for each module.
abbrev pub first_cells : List Module → List Cell
first_cells modules = cell.Namespace [] [] ∷ cell.Root ∷ host_cells 0 modules

abbrev pub first_state : Reader → List Module → State
first_state reader modules = record {
  cells = first_cells modules;
  printed = 0;
  texts = [];
  handled = [];
  classes = [];
  printing = [];
  modules = modules;
  reads_script = reader.script;
  reads_expression = reader.expression;
}

-- A text that is executed: what an expression statement or a text gives is not kept.
abbrev pub text_of : Program → RuleTree
text_of program = begins_text program

-- ---- the connection

-- The connection's cell and that of its modules are made, the other side's root and its namespace are asked for and kept, and `conn` is bound (RPyC's `rpyc.classic.connect`).
abbrev pub connects : RuleTree → RuleTree
connects t =
    makes (cell.Conn none none 0) (λ conn.
    makes (cell.Modules none) (λ modules.
    sets_cell conn (cell.Conn none none modules) (
    asks operation.GetRoot (λ root.
    sets_cell conn (cell.Conn root none modules) (sets_cell modules (cell.Modules root) (
    asks (operation.GetAttr root (codes "namespace")) (λ namespace.
    sets_cell conn (cell.Conn root namespace modules) (reads_cell namespace_number (λ c. binds_global (codes "conn") (value.Own conn) t (Some c))))))))))

-- the script of the side that connects
abbrev pub connected_text_of : Program → RuleTree
connected_text_of program = connects (text_of program)
