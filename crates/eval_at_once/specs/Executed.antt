-- What is carried out at once, with its units.
use Rattle.std.specs.Prelude.{◌≡◌, ◌+◌, ◌≤◌, ℕ, List, Option, Some, None, Ok}
use Rattle.py_ast.specs.declared.node.Node.{Node}
use Rattle.py_ast.specs.declared.node.Node.TheVariants as node
use Rattle.py_ast.specs.declared.program.Program.{Program}
use Rattle.py_ast.specs.declared.statement.Statement.{Statement}
use Rattle.py_ast.specs.declared.target.Target.TheVariants as target
use Rattle.py_store.specs.Cells.{Cells}
use Rattle.language_rules.specs.AtOnce.{at_once, stated}
use Rattle.language_rules.specs.Going.{RuleTree, done}
use Rattle.language_rules.specs.States.{State}
use Rattle.eval_at_once.specs.Evaluated.{ComesTo}

-- the computation ends and goes on to the next, with other cells, which takes a unit at least; where nothing is told nothing is changed
abbrev pub IsExecuted : Cells → Cells → List Program → RuleTree → ℕ → Option ℕ → Type 0
IsExecuted before after texts t units (Some left) = ((fixed : State) → ComesTo t (stated fixed before.cells texts) units done (stated fixed after.cells texts) left) × (left + 1 ≤ units)
IsExecuted before after texts t units None = after ≡ before

-- the same, for a computation that takes no unit
abbrev pub IsBound : Cells → Cells → List Program → RuleTree → ℕ → Option ℕ → Type 0
IsBound before after texts t units (Some left) = ((fixed : State) → at_once t (stated fixed before.cells texts) ≡ Some (Ok done, stated fixed after.cells texts)) × (left ≡ units)
IsBound before after texts t units None = after ≡ before

-- the statement that a node is
abbrev pub statement_of : Option Node → Option Statement
statement_of (Some (node.Statement s)) = Some s
statement_of _ = None

-- the name that a target is
abbrev pub name_of : Option Node → Option (List ℕ)
name_of (Some (node.Target (target.Name name))) = Some name
name_of _ = None
