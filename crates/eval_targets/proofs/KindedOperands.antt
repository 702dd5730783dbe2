-- What an augmented assignment makes of its operands, by their kinds, in every run.
use Rattle.std.proofs.Common.{◌≡◌, ◌||◌, ℕ, ◌∷◌, [], zero, suc, List, Option, Some, None, Bool, true, false, if◌then◌else◌, Result, Ok, Err, IfOk, reverse, refl, sym, ◌∙◌, ap, subst}
use Rattle.rp_base.specs.declared.ends.NoMemory.{NoMemory}
use Rattle.rp_base.specs.declared.ends.OpEnd.{OpEnd}
use Rattle.rp_base.specs.declared.ends.OpEnd.TheVariants as op_end
use Rattle.rp_base.specs.declared.identity.Kind.{Kind}
use Rattle.rp_base.specs.declared.identity.Kind.TheVariants as kind
use Rattle.rp_base.specs.declared.operators.BinaryOp.{BinaryOp}
use Rattle.rp_base.specs.declared.operators.BinaryOp.TheVariants as op
use Rattle.rp_base.specs.declared.value.Value.{Value}
use Rattle.rp_base.specs.declared.value.Value.TheVariants as value
use Rattle.py_ast.specs.declared.program.Program.{Program}
use Rattle.py_store.specs.Cells.{cell_of}
use Rattle.py_store.specs.declared.cell.Cell.{Cell}
use Rattle.object_operations.specs.declared.operation.Operation.TheVariants as operation
use Rattle.object_operations.specs.declared.special.Special.{Special}
use Rattle.side_trees.proofs.BindLaw.{bind-bind}
use Rattle.side_trees.specs.Trees.{Return, bind}
use Rattle.language_rules.specs.Answers.{asked}
use Rattle.language_rules.specs.AtOnce.{Comes, Computes, at_once, stated}
use Rattle.language_rules.specs.Codes.{Completion, Gives, Give}
use Rattle.language_rules.specs.Going.{RuleTree, asks, on_value}
use Rattle.language_rules.specs.Kinds.{is_reference, kind_of, kind_there, on_kind}
use Rattle.language_rules.specs.Operators.{augmented_at, augmented_rule, binary_rule, is_class, is_defined, is_iterable, left_out, object_rule, special_for, unasked_rule, update_rule, value_rule}
use Rattle.language_rules.specs.Running.{runs}
use Rattle.language_rules.specs.States.{State, cell_at}
use Rattle.eval_frames.proofs.Operating.{operates_bound}
use Rattle.eval_frames.specs.declared.frame.Frame.{Frame}
use Rattle.eval_frames.specs.declared.next.Next.{Next}
use Rattle.eval_frames.specs.Meaning.{Means, MeansIn, MeansOver, RunsAs, rest}
use Rattle.eval_targets.specs.declared.operands.Outcome.{Outcome}
use Rattle.eval_targets.specs.declared.operands.Outcome.TheVariants as outcome
use Rattle.eval_targets.specs.Kinded.{Becomes, augmented_by, binary_by, object_by, unasked_by, update_by}

-- ---- kinds

pub same_cell : (fixed : State) (cells : List Cell) (texts : List Program) (n : ℕ) → cell_of cells n ≡ cell_at (stated fixed cells texts) n
same_cell fixed cells texts zero = refl
same_cell fixed cells texts (suc n) = refl

-- the kind of an own cell
pub own_kind : (fixed : State) (cells : List Cell) (texts : List Program) (n : ℕ) (v : Value) (k : Option Kind) → v ≡ value.Own n → k ≡ kind_there (cell_of cells n) → k ≡ kind_of (stated fixed cells texts) v
own_kind fixed cells texts n v k is told = told ∙ ap kind_there (same_cell fixed cells texts n) ∙ ap (kind_of (stated fixed cells texts)) (sym is)

-- on with the kind of a value
pub kind_on : (s : State) (v : Value) (g : Option Kind → RuleTree) (k : Completion → RuleTree) → RunsAs s (bind (on_kind v g) k) (bind (g (kind_of s v)) k)
kind_on s (value.Own n) g k units printed = refl
kind_on s (value.Proxy id) g k units printed = refl
kind_on s _ g k units printed = refl

-- ---- operators

unasked_at : (s : State) (o : BinaryOp) (a b : Value) (k : Completion → RuleTree) → RunsAs s (bind (unasked_rule o a b) k) (bind (unasked_by o (a, kind_of s a) (b, kind_of s b)) k)
unasked_at s o a b k units printed =
    kind_on s a (λ x. on_kind b (λ y. left_out (is_defined o (a, x) (b, y)))) k units printed
    ∙ kind_on s b (λ y. left_out (is_defined o (a, kind_of s a) (b, y))) k units printed

object_at : (s : State) (m : Option Special) (o : BinaryOp) (a b : Value) (k : Completion → RuleTree) → RunsAs s (bind (object_rule m o a b) k) (bind (object_by m o (a, kind_of s a) (b, kind_of s b)) k)
object_at s (Some x) o a b k units printed = refl
object_at s None o a b k units printed = unasked_at s o a b k units printed

-- by what is a reference
chosen : (p q : Bool) (s : State) (o : BinaryOp) (a b : Value) (k : Completion → RuleTree) (plain : RuleTree)
    → RunsAs s (bind (if p then object_rule (special_for o) o a b else (if q then unasked_rule o a b else plain)) k) (bind (if p then object_by (special_for o) o (a, kind_of s a) (b, kind_of s b) else (if q then unasked_by o (a, kind_of s a) (b, kind_of s b) else plain)) k)
chosen true q s o a b k plain units printed = object_at s (special_for o) o a b k units printed
chosen false true s o a b k plain units printed = unasked_at s o a b k units printed
chosen false false s o a b k plain units printed = refl

-- an operator whose operands are no references is that of values
abbrev with_plain : Bool → Bool → RuleTree → RuleTree → RuleTree → RuleTree
with_plain p q object unasked plain = if p then object else (if q then unasked else plain)

same_plain : (p q : Bool) (object unasked object' unasked' plain : RuleTree) → with_plain p q object unasked plain ≡ with_plain p q object unasked (with_plain p q object' unasked' plain)
same_plain true q object unasked object' unasked' plain = refl
same_plain false true object unasked object' unasked' plain = refl
same_plain false false object unasked object' unasked' plain = refl

binary_at : (s : State) (o : BinaryOp) (a b : Value) (k : Completion → RuleTree) → RunsAs s (bind (binary_rule o a b) k) (bind (binary_by o (a, kind_of s a) (b, kind_of s b)) k)
unfolding binary_rule
binary_at s o a b k units printed =
    chosen (is_reference a) (is_reference b) s o a b k (value_rule o a b) units printed
    ∙ ap (λ (t : RuleTree). runs units (bind t k) s printed)
    (same_plain (is_reference a) (is_reference b) (object_by (special_for o) o (a, kind_of s a) (b, kind_of s b)) (unasked_by o (a, kind_of s a) (b, kind_of s b)) (object_rule (special_for o) o a b) (unasked_rule o a b) (value_rule o a b))

binary_given : (s : State) (o : BinaryOp) (a b : Value) (x : Option Kind) → kind_of s a ≡ x → (k : Completion → RuleTree) → RunsAs s (bind (binary_rule o a b) k) (bind (binary_by o (a, x) (b, kind_of s b)) k)
binary_given s o a b x is k units printed =
    binary_at s o a b k units printed
    ∙ ap (λ (y : Option Kind). runs units (bind (binary_by o (a, y) (b, kind_of s b)) k) s printed) is

-- ---- augmented assignment

update_at : (s : State) (b : Value) (k : Completion → RuleTree) → RunsAs s (bind (update_rule b) k) (bind (update_by (b, kind_of s b)) k)
update_at s b k units printed = kind_on s b (λ y. left_out (is_iterable (b, y) || is_class (b, y))) k units printed

with_kind : (s : State) (o : BinaryOp) (a b : Value) (x : Option Kind) → kind_of s a ≡ x → (k : Completion → RuleTree) → RunsAs s (bind (augmented_at o a b x) k) (bind (augmented_by o (a, x) (b, kind_of s b)) k)
with_kind s op.Add a b (Some kind.List) is k units printed = refl
with_kind s op.Mul a b (Some kind.List) is k units printed = refl
with_kind s op.Or a b (Some kind.Dict) is k units printed = update_at s b k units printed
with_kind s op.Or a b (Some kind.Namespace) is k units printed = update_at s b k units printed
with_kind s o a b x is k units printed = binary_given s o a b x is k units printed

operator_at : (s : State) (o : BinaryOp) (a b : Value) (x y : Option Kind) (k : Completion → RuleTree) → x ≡ kind_of s a → y ≡ kind_of s b → RunsAs s (bind (augmented_rule o a b) k) (bind (augmented_by o (a, x) (b, y)) k)
operator_at s o a b x y k is-x is-y units printed =
    kind_on s a (augmented_at o a b) k units printed
    ∙ with_kind s o a b (kind_of s a) refl k units printed
    ∙ ap (λ (z : Option Kind). runs units (bind (augmented_by o (a, z) (b, kind_of s b)) k) s printed) (sym is-x)
    ∙ ap (λ (z : Option Kind). runs units (bind (augmented_by o (a, x) (b, z)) k) s printed) (sym is-y)

-- the operator, and what goes on with its value
goes_behind : (s : State) (o : BinaryOp) (a b : Value) (x y : Option Kind) (f : Value → RuleTree) (k : Completion → RuleTree) (t : RuleTree) → x ≡ kind_of s a → y ≡ kind_of s b → augmented_by o (a, x) (b, y) ≡ t
    → RunsAs s (bind (bind (augmented_rule o a b) (on_value f)) k) (bind (bind t (on_value f)) k)
goes_behind s o a b x y f k t is-x is-y is units printed =
    ap (λ (u : RuleTree). runs units u s printed) (bind-bind (augmented_rule o a b) (on_value f) k)
    ∙ operator_at s o a b x y (λ c. bind (on_value f c) k) is-x is-y units printed
    ∙ ap (λ (u : RuleTree). runs units (bind u (λ c. bind (on_value f c) k)) s printed) is
    ∙ ap (λ (u : RuleTree). runs units u s printed) (sym (bind-bind t (on_value f) k))

-- ---- steps

-- the kind that was looked up
abbrev pub IsKind : Option Kind → List Cell → Value → Type 0
IsKind x cells v = (fixed : State) (texts : List Program) → x ≡ kind_of (stated fixed cells texts) v

-- over one stack, where it holds of every stack
pub at_stack : (t : RuleTree) (before after : List Cell) (texts : List Program) (stack : List Frame) (result : Result Next NoMemory)
    → IfOk result (λ n. (fixed : State) (stack : List Frame) → MeansOver (stated fixed before texts) (stated fixed after texts) stack n t stack)
    → IfOk result (λ n. (fixed : State) → MeansOver (stated fixed before texts) (stated fixed after texts) stack n t stack)
at_stack t before after texts stack (Ok n) h = λ fixed. h fixed stack
at_stack t before after texts stack (Err e) h = tt

-- a value was made
pub made_over : (o : BinaryOp) (a b : Value) (x y : Option Kind) (made : Value) (answer : Result Outcome OpEnd) (f : Value → RuleTree) (before after : List Cell) (texts : List Program) (now stack : List Frame) (result : Result Next NoMemory)
    → IsKind x before a → IsKind y before b → Becomes (augmented_by o (a, x) (b, y)) a b answer → answer ≡ Ok (outcome.Made made)
    → IfOk result (λ n. (fixed : State) → MeansOver (stated fixed before texts) (stated fixed after texts) now n (f made) stack)
    → IfOk result (λ n. (fixed : State) → MeansOver (stated fixed before texts) (stated fixed after texts) now n (bind (augmented_rule o a b) (on_value f)) stack)
made_over o a b x y made answer f before after texts now stack (Ok n) is-x is-y told is h = λ fixed units printed.
    goes_behind (stated fixed before texts) o a b x y f (rest (reverse stack)) (Return (Gives made)) (is-x fixed texts) (is-y fixed texts) (subst (Becomes (augmented_by o (a, x) (b, y)) a b) is told) units printed
    ∙ h fixed units printed
made_over o a b x y made answer f before after texts now stack (Err e) is-x is-y told is h = tt

-- the left operand was asked
pub asked_over : (o : BinaryOp) (a b : Value) (x y : Option Kind) (m : Special) (answer : Result Outcome OpEnd) (f : Value → RuleTree) (cells : List Cell) (texts : List Program) (now stack : List Frame) (result : Result Next NoMemory)
    → IsKind x cells a → IsKind y cells b → Becomes (augmented_by o (a, x) (b, y)) a b answer → answer ≡ Ok (outcome.Asked m)
    → IfOk result (λ n. Means now n (asks (operation.Special a m (b ∷ [])) f) stack)
    → IfOk result (λ n. (fixed : State) → MeansOver (stated fixed cells texts) (stated fixed cells texts) now n (bind (augmented_rule o a b) (on_value f)) stack)
asked_over o a b x y m answer f cells texts now stack (Ok n) is-x is-y told is h = λ fixed units printed.
    goes_behind (stated fixed cells texts) o a b x y f (rest (reverse stack)) (asked (operation.Special a m (b ∷ []))) (is-x fixed texts) (is-y fixed texts) (subst (Becomes (augmented_by o (a, x) (b, y)) a b) is told) units printed
    ∙ ap (λ (u : RuleTree). runs units (bind u (rest (reverse stack))) (stated fixed cells texts) printed) (operates_bound (operation.Special a m (b ∷ [])) (λ a. Give a) (λ a. Return a) (on_value f))
    ∙ ap (λ (u : RuleTree). runs units u (stated fixed cells texts) printed) (sym h)
asked_over o a b x y m answer f cells texts now stack (Err e) is-x is-y told is h = tt

-- nothing was made: that end is the end of all
pub comes_without : (t : RuleTree) (f : Value → RuleTree) (s : State) (e : OpEnd) → Computes t (Err e) → Comes (bind t (on_value f)) s (Err e) s s
comes_without t f s (op_end.Raise r) h = ap (λ (u : RuleTree). at_once (bind u (on_value f)) s) h
comes_without t f s (op_end.Beyond b) h = ap (λ (u : RuleTree). at_once (bind u (on_value f)) s) h
comes_without t f s op_end.NoMemory h = h

pub ended_over : (o : BinaryOp) (a b : Value) (x y : Option Kind) (e : OpEnd) (answer : Result Outcome OpEnd) (f : Value → RuleTree) (cells : List Cell) (texts : List Program) (stack : List Frame) (result : Result Next NoMemory)
    → IsKind x cells a → IsKind y cells b → Becomes (augmented_by o (a, x) (b, y)) a b answer → answer ≡ Err e
    → IfOk result (λ n. (s : State) (t : RuleTree) (stack : List Frame) → Comes t s (Err e) s s → MeansIn s stack n t stack)
    → IfOk result (λ n. (fixed : State) → MeansOver (stated fixed cells texts) (stated fixed cells texts) stack n (bind (augmented_rule o a b) (on_value f)) stack)
ended_over o a b x y e answer f cells texts stack (Ok n) is-x is-y told is h = λ fixed units printed.
    goes_behind (stated fixed cells texts) o a b x y f (rest (reverse stack)) (augmented_by o (a, x) (b, y)) (is-x fixed texts) (is-y fixed texts) refl units printed
    ∙ h (stated fixed cells texts) (bind (augmented_by o (a, x) (b, y)) (on_value f)) stack (comes_without (augmented_by o (a, x) (b, y)) f (stated fixed cells texts) e (subst (Becomes (augmented_by o (a, x) (b, y)) a b) is told)) units printed
ended_over o a b x y e answer f cells texts stack (Err m) is-x is-y told is h = tt

-- ---- steps that keep the cells, whatever the texts

pub made_at : (o : BinaryOp) (a b : Value) (x y : Option Kind) (made : Value) (answer : Result Outcome OpEnd) (f : Value → RuleTree) (cells : List Cell) (now stack : List Frame) (result : Result Next NoMemory)
    → IsKind x cells a → IsKind y cells b → Becomes (augmented_by o (a, x) (b, y)) a b answer → answer ≡ Ok (outcome.Made made)
    → IfOk result (λ n. Means now n (f made) stack)
    → IfOk result (λ n. (fixed : State) (texts : List Program) → MeansIn (stated fixed cells texts) now n (bind (augmented_rule o a b) (on_value f)) stack)
made_at o a b x y made answer f cells now stack (Ok n) is-x is-y told is h = λ fixed texts.
    made_over o a b x y made answer f cells cells texts now stack (Ok n) is-x is-y told is (λ fixed units printed. ap (λ (u : RuleTree). runs units u (stated fixed cells texts) printed) (sym h)) fixed
made_at o a b x y made answer f cells now stack (Err e) is-x is-y told is h = tt

pub asked_at : (o : BinaryOp) (a b : Value) (x y : Option Kind) (m : Special) (answer : Result Outcome OpEnd) (f : Value → RuleTree) (cells : List Cell) (now stack : List Frame) (result : Result Next NoMemory)
    → IsKind x cells a → IsKind y cells b → Becomes (augmented_by o (a, x) (b, y)) a b answer → answer ≡ Ok (outcome.Asked m)
    → IfOk result (λ n. Means now n (asks (operation.Special a m (b ∷ [])) f) stack)
    → IfOk result (λ n. (fixed : State) (texts : List Program) → MeansIn (stated fixed cells texts) now n (bind (augmented_rule o a b) (on_value f)) stack)
asked_at o a b x y m answer f cells now stack (Ok n) is-x is-y told is h = λ fixed texts. asked_over o a b x y m answer f cells texts now stack (Ok n) is-x is-y told is h fixed
asked_at o a b x y m answer f cells now stack (Err e) is-x is-y told is h = tt

pub ended_at : (o : BinaryOp) (a b : Value) (x y : Option Kind) (e : OpEnd) (answer : Result Outcome OpEnd) (f : Value → RuleTree) (cells : List Cell) (stack : List Frame) (result : Result Next NoMemory)
    → IsKind x cells a → IsKind y cells b → Becomes (augmented_by o (a, x) (b, y)) a b answer → answer ≡ Err e
    → IfOk result (λ n. (s : State) (t : RuleTree) (stack : List Frame) → Comes t s (Err e) s s → MeansIn s stack n t stack)
    → IfOk result (λ n. (fixed : State) (texts : List Program) → MeansIn (stated fixed cells texts) stack n (bind (augmented_rule o a b) (on_value f)) stack)
ended_at o a b x y e answer f cells stack (Ok n) is-x is-y told is h = λ fixed texts. ended_over o a b x y e answer f cells texts stack (Ok n) is-x is-y told is h fixed
ended_at o a b x y e answer f cells stack (Err m) is-x is-y told is h = tt
