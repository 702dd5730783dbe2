-- The state of a machine that makes texts of objects.
use Rattle.std.specs.Prelude.{ℕ, List, reverse}
use Rattle.py_ast.specs.declared.program.Program.{Program}
use Rattle.py_store.specs.declared.cell.Cell.{Cell}
use Rattle.language_rules.specs.States.{State}

-- the state with these cells and texts, and with these lists and dicts being printed, whose innermost is the last
abbrev pub shown : State → List Cell → List Program → List ℕ → State
shown s cells texts printing = record s { cells = cells; texts = texts; printing = reverse printing }
