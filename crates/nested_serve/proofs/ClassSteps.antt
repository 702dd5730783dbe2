-- Frames of class bodies, and searches that change a list.
use Rattle.std.proofs.Common.{◌≡◌, ℕ, List, reverse, Result, Ok, Err, IfOk, sym, subst}
use Rattle.rp_base.specs.declared.ends.NoMemory.{NoMemory}
use Rattle.rp_base.specs.declared.value.Value.{Value}
use Rattle.py_ast.specs.declared.program.Program.{Program}
use Rattle.py_store.specs.declared.cell.Cell.{Cell}
use Rattle.side_trees.specs.Trees.{bind}
use Rattle.language_rules.specs.AtOnce.{stated}
use Rattle.language_rules.specs.Codes.{Completion, Gives}
use Rattle.language_rules.specs.Going.{RuleTree, on_value}
use Rattle.language_rules.specs.Running.{runs}
use Rattle.language_rules.specs.States.{Handling, MadeClass, State}
use Rattle.eval_frames.specs.declared.frame.Frame.{Frame}
use Rattle.eval_frames.specs.declared.next.Next.{Next}
use Rattle.eval_frames.specs.Meaning.{MeansOver, classed, meant, rest, resume}
use Rattle.nested_serve.proofs.Steps.{at_frame_over, counting, lent_classes}

-- a frame by what it is, whatever the texts are
pub at_frame_over_cells : (r : Result Next NoMemory) (now before : List Frame) (cells cells' : List Cell) (texts : List Program) (f as_told : Frame) (a : Completion) → f ≡ as_told
    → IfOk r (λ n. (fixed : State) (others : List Program) → MeansOver (stated fixed cells others) (stated fixed cells' others) now n (resume as_told a) before)
    → IfOk r (λ n. (fixed : State) → MeansOver (stated fixed cells texts) (stated fixed cells' texts) now n (resume f a) before)
at_frame_over_cells (Ok n) now before cells cells' texts f as_told a p h = at_frame_over (Ok n) now before cells cells' texts f as_told a p (λ fixed. h fixed texts)
at_frame_over_cells (Err e) now before cells cells' texts f as_told a p h = tt

-- a value that is given to a class body
pub class_given : (r : Result Next NoMemory) (before now : List Frame) (cells cells' : List Cell) (texts as_lent : List Program) (handled : List Handling) (made made' : List MadeClass) (printing printed : List ℕ) (f : Value → RuleTree) (a : Completion) (v : Value) → a ≡ Gives v → as_lent ≡ texts
    → IfOk r (λ n. (fixed : State) → MeansOver (classed fixed cells as_lent made) (classed fixed cells' as_lent made') now n (f v) before)
    → IfOk r (λ n. (fixed : State) (units : ℕ) → runs units (bind (on_value f a) (rest (reverse before))) (counting fixed cells texts handled made printing printed) printed ≡ runs units (meant now n) (counting fixed cells' texts handled made' printing printed) printed)
class_given r before now cells cells' texts as_lent handled made made' printing printed f a v is p h =
    subst (λ (b : Completion). IfOk r (λ n. (fixed : State) (units : ℕ) → runs units (bind (on_value f b) (rest (reverse before))) (counting fixed cells texts handled made printing printed) printed ≡ runs units (meant now n) (counting fixed cells' texts handled made' printing printed) printed)) (sym is)
    (lent_classes r before now cells cells' texts as_lent handled made made' printing printed (f v) p h)
