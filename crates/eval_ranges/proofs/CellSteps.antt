-- What comes next by the cell that a number names.
use Rattle.std.proofs.Common.{◌≡◌, ℕ, List, reverse, Option, Some, Result, Ok, Err, IfOk, ◌∙◌, ap}
use Rattle.rp_base.specs.declared.ends.NoMemory.{NoMemory}
use Rattle.py_ast.specs.declared.program.Program.{Program}
use Rattle.py_store.specs.Cells.{cell_of}
use Rattle.py_store.specs.declared.cell.Cell.{Cell}
use Rattle.side_trees.specs.Trees.{bind}
use Rattle.language_rules.specs.AtOnce.{stated}
use Rattle.language_rules.specs.Going.{RuleTree, on_cell, reads_cell}
use Rattle.language_rules.specs.Running.{runs}
use Rattle.language_rules.specs.States.{State}
use Rattle.eval_frames.specs.declared.frame.Frame.{Frame}
use Rattle.eval_frames.specs.declared.next.Next.{Next}
use Rattle.eval_frames.specs.Meaning.{MeansOver, rest}
use Rattle.eval_ranges.proofs.SpecialLemmas.{Within}

-- what comes next over the cells after, of a computation over those before
abbrev pub Over : List Cell → List Cell → RuleTree → Next → Type 0
Over cells after t n = (fixed : State) (texts : List Program) (stack : List Frame) → MeansOver (stated fixed cells texts) (stated fixed after texts) stack n t stack

pub at_cell : (cells : List Cell) (number : ℕ) (c : Cell) (rule : Cell → RuleTree) (n : Next) → cell_of cells number ≡ Some c → Within cells (rule c) n → Within cells (reads_cell number rule) n
at_cell cells number c rule n is h fixed texts stack units printed =
    ap (λ (o : Option Cell). runs units (bind (on_cell rule o) (rest (reverse stack))) (stated fixed cells texts) printed) is ∙ h fixed texts stack units printed

pub of_cell : (cells : List Cell) (number : ℕ) (c : Cell) (rule : Cell → RuleTree) (r : Result Next NoMemory) → cell_of cells number ≡ Some c → IfOk r (Within cells (rule c)) → IfOk r (Within cells (reads_cell number rule))
of_cell cells number c rule (Ok n) is h = at_cell cells number c rule n is h
of_cell cells number c rule (Err e) is h = h
