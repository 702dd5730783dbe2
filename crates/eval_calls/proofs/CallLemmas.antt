-- A call, from the value that is called to the scope that is made.
use Rattle.std.proofs.Common.{◌≡◌, ◌==◌, ℕ, Bool, false, if◌then◌else◌, List, codes, length, reverse, Option, Some, Result, Ok, Err, IfOk, sym, ◌∙◌, ap, subst}
use Rattle.rp_base.specs.declared.ends.NoMemory.{NoMemory}
use Rattle.rp_base.specs.declared.value.Value.{Value}
use Rattle.py_ast.specs.declared.program.FunctionInfo.{FunctionInfo}
use Rattle.py_ast.specs.declared.program.Program.{Program}
use Rattle.py_store.specs.Cells.{cell_of}
use Rattle.py_store.specs.declared.cell.Cell.{Cell}
use Rattle.side_trees.specs.Trees.{bind}
use Rattle.language_rules.specs.AtOnce.{stated}
use Rattle.language_rules.specs.Calls.{calls_cell, not_callable}
use Rattle.language_rules.specs.Functions.{runs_function}
use Rattle.language_rules.specs.Going.{RuleTree, on_cell, reads_cell, type_error}
use Rattle.language_rules.specs.Running.{runs}
use Rattle.language_rules.specs.States.{State}
use Rattle.eval_frames.specs.declared.frame.Frame.{Frame}
use Rattle.eval_frames.specs.declared.next.Next.{Next}
use Rattle.eval_frames.specs.Meaning.{Means, MeansOver, rest}
use Rattle.eval_calls.specs.Closures.{calls_callee}
use Rattle.eval_calls.specs.declared.calling.Callee.{Callee}
use Rattle.eval_calls.specs.Waiting.{begins_call}

-- a step over the cells before and after
abbrev pub Over : List Program → List Cell → List Cell → List Frame → Next → RuleTree → List Frame → Type 0
Over texts cells cells' now n t before = (fixed : State) → MeansOver (stated fixed cells texts) (stated fixed cells' texts) now n t before

-- ---- pieces of the rules

cell-found : (number : ℕ) (f : Cell → RuleTree) (c : Cell) (texts : List Program) (cells cells' : List Cell) (now before : List Frame) (n : Next)
    → cell_of cells number ≡ Some c → Over texts cells cells' now n (f c) before → Over texts cells cells' now n (reads_cell number f) before
cell-found number f c texts cells cells' now before n is h fixed units printed =
    ap (λ (o : Option Cell). runs units (bind (on_cell f o) (rest (reverse before))) (stated fixed cells texts) printed) is ∙ h fixed units printed

-- ---- a call

-- what can't be called
pub refused : {X : Type 0} (rule : X → RuleTree) (x as_told : X) (texts : List Program) (cells : List Cell) (before : List Frame) (r : Result Next NoMemory)
    → x ≡ as_told → rule as_told ≡ not_callable
    → IfOk r (λ n. (stack : List Frame) → Means stack n not_callable stack)
    → IfOk r (λ n. Over texts cells cells before n (rule x) before)
refused rule x as_told texts cells before (Ok n) is told h = λ fixed units printed.
    ap (λ y. runs units (bind (rule y) (rest (reverse before))) (stated fixed cells texts) printed) is
    ∙ ap (λ (t : RuleTree). runs units (bind t (rest (reverse before))) (stated fixed cells texts) printed) told
    ∙ ap (λ (t : RuleTree). runs units t (stated fixed cells texts) printed) (sym (h before))
refused rule x as_told texts cells before (Err e) is told h = h

abbrev judged : Bool → ℕ → ℕ → ℕ → List Value → FunctionInfo → RuleTree
judged as_many text function parent arguments info = if as_many then begins_call text function parent arguments info else type_error (codes "wrong number of arguments")

pub wrong_number : (text function parent : ℕ) (arguments : List Value) (info : FunctionInfo) (texts : List Program) (cells : List Cell) (before : List Frame) (r : Result Next NoMemory)
    → (length info.parameters == length arguments) ≡ false
    → IfOk r (λ n. (stack : List Frame) → Means stack n (type_error (codes "wrong number of arguments")) stack)
    → IfOk r (λ n. Over texts cells cells before n (runs_function text function parent arguments info) before)
wrong_number text function parent arguments info texts cells before (Ok n) is h = λ fixed units printed.
    ap (λ (b : Bool). runs units (bind (judged b text function parent arguments info) (rest (reverse before))) (stated fixed cells texts) printed) is
    ∙ ap (λ (x : RuleTree). runs units x (stated fixed cells texts) printed) (sym (h before))
wrong_number text function parent arguments info texts cells before (Err e) is h = h

pub called_cell : (number : ℕ) (arguments : List Value) (c : Cell) (t : RuleTree) (texts : List Program) (cells cells' : List Cell) (now before : List Frame) (r : Result Next NoMemory)
    → cell_of cells number ≡ Some c → calls_cell number arguments c ≡ t
    → IfOk r (λ n. Over texts cells cells' now n t before)
    → IfOk r (λ n. Over texts cells cells' now n (reads_cell number (calls_cell number arguments)) before)
called_cell number arguments c t texts cells cells' now before (Ok n) is rule h =
    cell-found number (calls_cell number arguments) c texts cells cells' now before n is
    (λ fixed units printed. ap (λ (x : RuleTree). runs units (bind x (rest (reverse before))) (stated fixed cells texts) printed) rule ∙ h fixed units printed)
called_cell number arguments c t texts cells cells' now before (Err e) is rule h = h

-- ---- what a cell is when it is called

pub callee_told : (number : ℕ) (callee as_told : Callee) (arguments : List Value) (t : RuleTree) (texts : List Program) (cells cells' : List Cell) (now before : List Frame) (r : Result Next NoMemory)
    → callee ≡ as_told → calls_callee number as_told arguments ≡ t
    → IfOk r (λ n. Over texts cells cells' now n t before)
    → IfOk r (λ n. Over texts cells cells' now n (calls_callee number callee arguments) before)
callee_told number callee as_told arguments t texts cells cells' now before r is rule h =
    subst (λ (x : RuleTree). IfOk r (λ n. Over texts cells cells' now n x before)) (sym rule ∙ ap (λ (x : Callee). calls_callee number x arguments) (sym is)) h

-- whatever the texts are
pub these_texts : (t : RuleTree) (texts : List Program) (cells cells' : List Cell) (now before : List Frame) (r : Result Next NoMemory)
    → IfOk r (λ n. (fixed : State) (texts : List Program) → MeansOver (stated fixed cells texts) (stated fixed cells' texts) now n t before)
    → IfOk r (λ n. Over texts cells cells' now n t before)
these_texts t texts cells cells' now before (Ok n) h = λ fixed. h fixed texts
these_texts t texts cells cells' now before (Err e) h = h

-- whatever waits
pub this_stack : (t : RuleTree) (texts : List Program) (cells : List Cell) (stack : List Frame) (r : Result Next NoMemory)
    → IfOk r (λ n. (stack : List Frame) → Means stack n t stack)
    → IfOk r (λ n. Over texts cells cells stack n t stack)
this_stack t texts cells stack (Ok n) h = λ fixed units printed. ap (λ (x : RuleTree). runs units x (stated fixed cells texts) printed) (sym (h stack))
this_stack t texts cells stack (Err e) h = h
