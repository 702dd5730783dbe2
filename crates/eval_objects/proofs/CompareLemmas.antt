-- Comparisons of the cell that a number names, by the kind of the other value.
use Rattle.std.proofs.Common.{◌≡◌, ℕ, List, reverse, Option, Some, Result, Ok, Err, IfOk, sym, ◌∙◌, ap, subst}
use Rattle.rp_base.specs.declared.ends.NoMemory.{NoMemory}
use Rattle.rp_base.specs.declared.identity.Kind.{Kind}
use Rattle.rp_base.specs.declared.operators.CmpOp.{CmpOp}
use Rattle.rp_base.specs.declared.value.Value.{Value}
use Rattle.py_ast.specs.declared.program.Program.{Program}
use Rattle.py_store.specs.Cells.{cell_of}
use Rattle.py_store.specs.declared.cell.Cell.{Cell}
use Rattle.side_trees.specs.Trees.{bind}
use Rattle.language_rules.specs.AtOnce.{stated}
use Rattle.language_rules.specs.CellComparing.{cell_compare, cells_compared}
use Rattle.language_rules.specs.Going.{RuleTree, on_cell}
use Rattle.language_rules.specs.Kinds.{kind_of, on_kind}
use Rattle.language_rules.specs.Running.{runs}
use Rattle.language_rules.specs.States.{State}
use Rattle.eval_frames.specs.declared.frame.Frame.{Frame}
use Rattle.eval_frames.specs.declared.next.Next.{Next}
use Rattle.eval_frames.specs.Meaning.{MeansIn, rest}
use Rattle.eval_ranges.proofs.SpecialLemmas.{of_kind}
use Rattle.eval_objects.specs.Comparisons.{compared_as}
use Rattle.eval_objects.specs.declared.comparing.Comparing.{Comparing}

pub compared_there : (cells : List Cell) (number : ℕ) (c : Cell) (op : CmpOp) (other : Value) (k : Option Kind) (way : Comparing) (r : Result Next NoMemory) (now before : List Frame) → cell_of cells number ≡ Some c
    → ((fixed : State) (texts : List Program) → k ≡ kind_of (stated fixed cells texts) other) → cells_compared number op other c k ≡ compared_as way number op other
    → IfOk r (λ n. (fixed : State) (texts : List Program) → MeansIn (stated fixed cells texts) now n (compared_as way number op other) before) → IfOk r (λ n. (fixed : State) (texts : List Program) → MeansIn (stated fixed cells texts) now n (cell_compare number op other) before)
compared_there cells number c op other k way (Ok n) now before is kinds so h = λ fixed texts units printed.
    ap (λ (o : Option Cell). runs units (bind (on_cell (λ d. on_kind other (cells_compared number op other d)) o) (rest (reverse before))) (stated fixed cells texts) printed) is
    ∙ of_kind other (cells_compared number op other c) k n (stated fixed cells texts) now before (kinds fixed texts)
    (subst (λ (t : RuleTree). MeansIn (stated fixed cells texts) now n t before) (sym so) (h fixed texts)) units printed
compared_there cells number c op other k way (Err e) now before is kinds so h = h
