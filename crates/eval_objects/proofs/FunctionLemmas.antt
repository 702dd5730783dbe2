-- Rules on an own object, where it is a function.
use Rattle.std.proofs.Common.{◌≡◌, ℕ, List, reverse, Option, Some, ◌∙◌, ap}
use Rattle.py_ast.specs.declared.program.Program.{Program}
use Rattle.py_store.specs.Cells.{cell_of}
use Rattle.py_store.specs.declared.cell.Cell.{Cell}
use Rattle.py_store.specs.declared.cell.Cell.TheVariants as cell
use Rattle.side_trees.specs.Trees.{bind}
use Rattle.language_rules.specs.AtOnce.{stated}
use Rattle.language_rules.specs.Going.{RuleTree, on_cell, reads_cell}
use Rattle.language_rules.specs.Running.{runs}
use Rattle.language_rules.specs.States.{State}
use Rattle.eval_frames.specs.declared.frame.Frame.{Frame}
use Rattle.eval_frames.specs.declared.next.Next.{Next}
use Rattle.eval_frames.specs.Meaning.{MeansIn, rest}
use Rattle.eval_objects.specs.Receivers.{IsOfFunctions}

-- a step over these cells, whatever waits
abbrev pub In : List Cell → Next → RuleTree → Type 0
In cells n t = (fixed : State) (texts : List Program) (stack : List Frame) → MeansIn (stated fixed cells texts) stack n t stack

-- what comes of the answer of a function
abbrev pub Answers : List Cell → ℕ → Next → Next → Type 0
Answers cells number answer n = (f : Cell → RuleTree) → IsOfFunctions f answer → In cells n (reads_cell number f)

pub function_there : (cells : List Cell) (number text function scope : ℕ) (answer : Next) → cell_of cells number ≡ Some (cell.Function text function scope) → Answers cells number answer answer
function_there cells number text function scope answer is f of fixed texts stack units printed =
    ap (λ (o : Option Cell). runs units (bind (on_cell f o) (rest (reverse stack))) (stated fixed cells texts) printed) is
    ∙ of text function scope (stated fixed cells texts) stack units printed
