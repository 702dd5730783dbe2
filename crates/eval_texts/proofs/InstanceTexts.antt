-- The text of an instance, over what is being printed.
use Rattle.std.proofs.Common.{◌≡◌, ℕ, List, reverse, Option, Some, Result, Ok, Err, IfOk, ◌∙◌, ap}
use Rattle.rp_base.specs.declared.ends.NoMemory.{NoMemory}
use Rattle.py_ast.specs.declared.program.Program.{Program}
use Rattle.py_store.specs.Cells.{cell_of}
use Rattle.py_store.specs.declared.cell.Binding.{Binding}
use Rattle.py_store.specs.declared.cell.Cell.{Cell}
use Rattle.py_store.specs.declared.cell.Cell.TheVariants as cell
use Rattle.side_trees.specs.Trees.{bind}
use Rattle.language_rules.specs.Going.{RuleTree, on_cell, reads_cell}
use Rattle.language_rules.specs.Running.{runs}
use Rattle.language_rules.specs.States.{State}
use Rattle.eval_frames.specs.declared.frame.Frame.{Frame}
use Rattle.eval_frames.specs.declared.next.Next.{Next}
use Rattle.eval_frames.specs.Meaning.{MeansOver, rest}
use Rattle.eval_instances.specs.Methods.{Within}
use Rattle.eval_texts.specs.Shown.{shown}
use Rattle.eval_texts.specs.Texts.{printing_in}

pub instance_read : (cells : List Cell) (number class_no : ℕ) (attributes : List Binding) (f : Cell → RuleTree) (printing : List ℕ) (result : Result Next NoMemory) (now stack : List Frame) → cell_of cells number ≡ Some (cell.Instance class_no attributes)
    → IfOk result (Within cells now (f (cell.Instance class_no attributes)) stack) → IfOk result (λ n. (fixed : State) (texts : List Program) → MeansOver (shown fixed cells texts printing) (shown fixed cells texts printing) now n (reads_cell number f) stack)
instance_read cells number class_no attributes f printing (Ok n) now stack is h = λ fixed texts units printed.
    ap (λ (o : Option Cell). runs units (bind (on_cell f o) (rest (reverse stack))) (shown fixed cells texts printing) printed) is ∙ h (printing_in fixed printing) texts units printed
instance_read cells number class_no attributes f printing (Err x) now stack is h = tt
