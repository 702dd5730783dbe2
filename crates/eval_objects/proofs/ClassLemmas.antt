-- Classes and bound methods, which answer special operations as functions do.
use Rattle.std.proofs.Common.{◌≡◌, ℕ, List, [], ◌∷◌, reverse, Option, Some, Result, Ok, Err, IfOk, refl, ◌∙◌, ap, subst}
use Rattle.rp_base.specs.declared.ends.NoMemory.{NoMemory}
use Rattle.rp_base.specs.declared.value.Value.{Value}
use Rattle.object_operations.specs.declared.special.Special.{Special}
use Rattle.object_operations.specs.declared.special.Special.TheVariants as special
use Rattle.py_ast.specs.declared.program.Program.{Program}
use Rattle.py_store.specs.Cells.{cell_of}
use Rattle.py_store.specs.declared.cell.Binding.{Binding}
use Rattle.py_store.specs.declared.cell.Cell.{Cell}
use Rattle.py_store.specs.declared.cell.Cell.TheVariants as cell
use Rattle.py_store.specs.declared.cell.Method.{Method}
use Rattle.side_trees.specs.Trees.{bind}
use Rattle.language_rules.specs.AtOnce.{stated}
use Rattle.language_rules.specs.Going.{RuleTree, on_cell, reads_cell}
use Rattle.language_rules.specs.Perform.{special_of_cell}
use Rattle.language_rules.specs.Running.{runs}
use Rattle.language_rules.specs.States.{State}
use Rattle.eval_frames.specs.declared.frame.Frame.{Frame}
use Rattle.eval_frames.specs.declared.next.Next.{Next}
use Rattle.eval_frames.specs.Meaning.{Means, MeansIn, rest}
use Rattle.eval_ranges.proofs.CellSteps.{at_cell}
use Rattle.eval_ranges.proofs.SpecialLemmas.{Within, within}

-- the answer of a function, whichever it is
abbrev pub of_function : Special → ℕ → List Value → RuleTree
of_function o n vs = special_of_cell o n vs (cell.Function 0 0 0)

of_class : (o : Special) (n : ℕ) (vs : List Value) (name : List ℕ) (base : Option ℕ) (attributes : List Binding) → of_function o n vs ≡ special_of_cell o n vs (cell.Class name base attributes)
of_class special.Len n [] name base attributes = refl
of_class special.Len n (v ∷ vs) name base attributes = refl
of_class special.Bool n [] name base attributes = refl
of_class special.Bool n (v ∷ vs) name base attributes = refl
of_class special.GetItem n [] name base attributes = refl
of_class special.GetItem n (v ∷ []) name base attributes = refl
of_class special.GetItem n (v ∷ w ∷ vs) name base attributes = refl
of_class special.SetItem n [] name base attributes = refl
of_class special.SetItem n (v ∷ []) name base attributes = refl
of_class special.SetItem n (v ∷ w ∷ []) name base attributes = refl
of_class special.SetItem n (v ∷ w ∷ x ∷ vs) name base attributes = refl
of_class special.DelItem n [] name base attributes = refl
of_class special.DelItem n (v ∷ []) name base attributes = refl
of_class special.DelItem n (v ∷ w ∷ vs) name base attributes = refl
of_class special.Contains n [] name base attributes = refl
of_class special.Contains n (v ∷ []) name base attributes = refl
of_class special.Contains n (v ∷ w ∷ vs) name base attributes = refl
of_class special.Iter n [] name base attributes = refl
of_class special.Iter n (v ∷ vs) name base attributes = refl
of_class special.Next n [] name base attributes = refl
of_class special.Next n (v ∷ vs) name base attributes = refl
of_class special.Add n [] name base attributes = refl
of_class special.Add n (v ∷ []) name base attributes = refl
of_class special.Add n (v ∷ w ∷ vs) name base attributes = refl
of_class special.Sub n [] name base attributes = refl
of_class special.Sub n (v ∷ []) name base attributes = refl
of_class special.Sub n (v ∷ w ∷ vs) name base attributes = refl
of_class special.Mul n [] name base attributes = refl
of_class special.Mul n (v ∷ []) name base attributes = refl
of_class special.Mul n (v ∷ w ∷ vs) name base attributes = refl
of_class special.FloorDiv n [] name base attributes = refl
of_class special.FloorDiv n (v ∷ []) name base attributes = refl
of_class special.FloorDiv n (v ∷ w ∷ vs) name base attributes = refl
of_class special.Mod n [] name base attributes = refl
of_class special.Mod n (v ∷ []) name base attributes = refl
of_class special.Mod n (v ∷ w ∷ vs) name base attributes = refl
of_class special.Neg n [] name base attributes = refl
of_class special.Neg n (v ∷ vs) name base attributes = refl
of_class special.IAdd n [] name base attributes = refl
of_class special.IAdd n (v ∷ []) name base attributes = refl
of_class special.IAdd n (v ∷ w ∷ vs) name base attributes = refl
of_class special.GetModule n vs name base attributes = refl

of_bound : (o : Special) (n : ℕ) (vs : List Value) (receiver : Value) (m : Method) → of_function o n vs ≡ special_of_cell o n vs (cell.Bound receiver m)
of_bound special.Len n [] receiver m = refl
of_bound special.Len n (v ∷ vs) receiver m = refl
of_bound special.Bool n [] receiver m = refl
of_bound special.Bool n (v ∷ vs) receiver m = refl
of_bound special.GetItem n [] receiver m = refl
of_bound special.GetItem n (v ∷ []) receiver m = refl
of_bound special.GetItem n (v ∷ w ∷ vs) receiver m = refl
of_bound special.SetItem n [] receiver m = refl
of_bound special.SetItem n (v ∷ []) receiver m = refl
of_bound special.SetItem n (v ∷ w ∷ []) receiver m = refl
of_bound special.SetItem n (v ∷ w ∷ x ∷ vs) receiver m = refl
of_bound special.DelItem n [] receiver m = refl
of_bound special.DelItem n (v ∷ []) receiver m = refl
of_bound special.DelItem n (v ∷ w ∷ vs) receiver m = refl
of_bound special.Contains n [] receiver m = refl
of_bound special.Contains n (v ∷ []) receiver m = refl
of_bound special.Contains n (v ∷ w ∷ vs) receiver m = refl
of_bound special.Iter n [] receiver m = refl
of_bound special.Iter n (v ∷ vs) receiver m = refl
of_bound special.Next n [] receiver m = refl
of_bound special.Next n (v ∷ vs) receiver m = refl
of_bound special.Add n [] receiver m = refl
of_bound special.Add n (v ∷ []) receiver m = refl
of_bound special.Add n (v ∷ w ∷ vs) receiver m = refl
of_bound special.Sub n [] receiver m = refl
of_bound special.Sub n (v ∷ []) receiver m = refl
of_bound special.Sub n (v ∷ w ∷ vs) receiver m = refl
of_bound special.Mul n [] receiver m = refl
of_bound special.Mul n (v ∷ []) receiver m = refl
of_bound special.Mul n (v ∷ w ∷ vs) receiver m = refl
of_bound special.FloorDiv n [] receiver m = refl
of_bound special.FloorDiv n (v ∷ []) receiver m = refl
of_bound special.FloorDiv n (v ∷ w ∷ vs) receiver m = refl
of_bound special.Mod n [] receiver m = refl
of_bound special.Mod n (v ∷ []) receiver m = refl
of_bound special.Mod n (v ∷ w ∷ vs) receiver m = refl
of_bound special.Neg n [] receiver m = refl
of_bound special.Neg n (v ∷ vs) receiver m = refl
of_bound special.IAdd n [] receiver m = refl
of_bound special.IAdd n (v ∷ []) receiver m = refl
of_bound special.IAdd n (v ∷ w ∷ vs) receiver m = refl
of_bound special.GetModule n vs receiver m = refl

-- what a function answers, over any stack
abbrev pub OfFunction : Special → List Value → Next → Type 0
OfFunction o vs next = (number text function scope : ℕ) (stack : List Frame) → Means stack next (special_of_cell o number vs (cell.Function text function scope)) stack

as_function : (cells : List Cell) (n : ℕ) (c : Cell) (o : Special) (vs : List Value) (r : Result Next NoMemory) → cell_of cells n ≡ Some c → of_function o n vs ≡ special_of_cell o n vs c
    → IfOk r (OfFunction o vs) → IfOk r (Within cells (reads_cell n (special_of_cell o n vs)))
as_function cells n c o vs (Ok next) is so h =
    at_cell cells n c (special_of_cell o n vs) next is (subst (λ (t : RuleTree). Within cells t next) so (within cells (of_function o n vs) next (h n 0 0 0)))
as_function cells n c o vs (Err e) is so h = h

pub class_there : (cells : List Cell) (n : ℕ) (name : List ℕ) (base : Option ℕ) (attributes : List Binding) (o : Special) (vs : List Value) (r : Result Next NoMemory) → cell_of cells n ≡ Some (cell.Class name base attributes)
    → IfOk r (OfFunction o vs) → IfOk r (Within cells (reads_cell n (special_of_cell o n vs)))
class_there cells n name base attributes o vs r is h = as_function cells n (cell.Class name base attributes) o vs r is (of_class o n vs name base attributes) h

pub bound_there : (cells : List Cell) (n : ℕ) (receiver : Value) (m : Method) (o : Special) (vs : List Value) (r : Result Next NoMemory) → cell_of cells n ≡ Some (cell.Bound receiver m)
    → IfOk r (OfFunction o vs) → IfOk r (Within cells (reads_cell n (special_of_cell o n vs)))
bound_there cells n receiver m o vs r is h = as_function cells n (cell.Bound receiver m) o vs r is (of_bound o n vs receiver m) h

-- ---- instances

pub instance_there : (cells : List Cell) (now before : List Frame) (n class_no : ℕ) (attributes : List Binding) (o : Special) (vs : List Value) (r : Result Next NoMemory) → cell_of cells n ≡ Some (cell.Instance class_no attributes)
    → IfOk r (λ next. (k : ℕ) (bs : List Binding) (fixed : State) (texts : List Program) → MeansIn (stated fixed cells texts) now next (special_of_cell o n vs (cell.Instance k bs)) before)
    → IfOk r (λ next. (fixed : State) (texts : List Program) → MeansIn (stated fixed cells texts) now next (reads_cell n (special_of_cell o n vs)) before)
instance_there cells now before n class_no attributes o vs (Ok next) is h = λ fixed texts units printed.
    ap (λ (c : Option Cell). runs units (bind (on_cell (special_of_cell o n vs) c) (rest (reverse before))) (stated fixed cells texts) printed) is
    ∙ h class_no attributes fixed texts units printed
instance_there cells now before n class_no attributes o vs (Err e) is h = h

-- over a stack that stays
pub over_stack : (cells : List Cell) (t : RuleTree) (stack : List Frame) (r : Result Next NoMemory) → IfOk r (Within cells t) → IfOk r (λ next. (fixed : State) (texts : List Program) → MeansIn (stated fixed cells texts) stack next t stack)
over_stack cells t stack (Ok next) h = λ fixed texts. h fixed texts stack
over_stack cells t stack (Err e) h = h
