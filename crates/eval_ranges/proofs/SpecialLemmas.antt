-- Special operations by their arguments and their names, and what comes next in a state.
use Rattle.std.proofs.Common.{◌≡◌, ◌<◌, ◌≤◌, slice_index_or, Bool, true, false, if◌then◌else◌, List, [], ◌∷◌, length, Option, Some, None, Result, Ok, Err, IfOk, refl, sym, ◌∙◌, ap, subst, arith}
use Rattle.rp_base.specs.declared.ends.NoMemory.{NoMemory}
use Rattle.rp_base.specs.declared.exceptions.Beyond.TheVariants as beyond
use Rattle.rp_base.specs.declared.identity.Kind.{Kind}
use Rattle.rp_base.specs.declared.identity.Kind.TheVariants as kind
use Rattle.rp_base.specs.declared.value.Value.{Value}
use Rattle.rp_base.specs.declared.value.Value.TheVariants as value
use Rattle.object_operations.specs.declared.special.Special.{Special}
use Rattle.py_ast.specs.declared.program.Program.{Program}
use Rattle.py_store.specs.declared.cell.Cell.{Cell}
use Rattle.side_trees.specs.Trees.{Stop}
use Rattle.language_rules.specs.Arithmetic.{less_view}
use Rattle.language_rules.specs.AtOnce.{stated}
use Rattle.language_rules.specs.Going.{RuleTree, none}
use Rattle.language_rules.specs.Kinds.{kind_of, on_kind}
use Rattle.language_rules.specs.Operators.{is_view, unsupported}
use Rattle.language_rules.specs.Running.{runs}
use Rattle.language_rules.specs.States.{State}
use Rattle.eval_frames.specs.declared.frame.Frame.{Frame}
use Rattle.eval_frames.specs.declared.next.Next.{Next}
use Rattle.eval_frames.specs.Meaning.{Means, MeansIn}

-- ---- what comes next, whatever waits

abbrev pub Plainly : RuleTree → Next → Type 0
Plainly t n = (stack : List Frame) → Means stack n t stack

abbrev pub Within : List Cell → RuleTree → Next → Type 0
Within cells t n = (fixed : State) (texts : List Program) (stack : List Frame) → MeansIn (stated fixed cells texts) stack n t stack

pub in_state : (s : State) (t : RuleTree) (n : Next) (now before : List Frame) → Means now n t before → MeansIn s now n t before
in_state s t n now before h units printed = ap (λ (x : RuleTree). runs units x s printed) (sym h)

pub within : (cells : List Cell) (t : RuleTree) (n : Next) → Plainly t n → Within cells t n
within cells t n h fixed texts stack = in_state (stated fixed cells texts) t n stack stack (h stack)

-- ---- by the name of the operation

pub told : (rule : Special → RuleTree) (operator as_told : Special) (r : Result Next NoMemory) → operator ≡ as_told → IfOk r (Plainly (rule as_told)) → IfOk r (Plainly (rule operator))
told rule operator as_told r is h = subst (λ s. IfOk r (Plainly (rule s))) (sym is) h

pub told_within : (cells : List Cell) (rule : Special → RuleTree) (operator as_told : Special) (r : Result Next NoMemory) → operator ≡ as_told → IfOk r (Within cells (rule as_told)) → IfOk r (Within cells (rule operator))
told_within cells rule operator as_told r is h = subst (λ s. IfOk r (Within cells (rule s))) (sym is) h

pub all_within : (cells : List Cell) (t : RuleTree) (r : Result Next NoMemory) → IfOk r (Plainly t) → IfOk r (Within cells t)
all_within cells t (Ok n) h = within cells t n h
all_within cells t (Err e) h = h

pub told_plainly : (cells : List Cell) (rule : Special → RuleTree) (operator as_told : Special) (r : Result Next NoMemory) → operator ≡ as_told → IfOk r (Plainly (rule as_told)) → IfOk r (Within cells (rule operator))
told_plainly cells rule operator as_told r is h = all_within cells (rule operator) r (told rule operator as_told r is h)

-- ---- by the arguments

pub one_argument : (P : List Value → Type 0) (vs : List Value) (x : Value) → 1 ≤ length vs → length vs < 2 → x ≡ slice_index_or vs 0 x → P (x ∷ []) → P vs
one_argument P [] x l b k h = absurd (omega (arith, l))
one_argument P (v ∷ []) x l b k h = subst (λ (y : Value). P (y ∷ [])) k h
one_argument P (v ∷ w ∷ vs) x l b k h = absurd (omega (arith, b))

pub two_arguments : (P : List Value → Type 0) (vs : List Value) (x y : Value) → 2 ≤ length vs → length vs < 3 → x ≡ slice_index_or vs 0 x → y ≡ slice_index_or vs 1 y → P (x ∷ y ∷ []) → P vs
two_arguments P [] x y l b k m h = absurd (omega (arith, l))
two_arguments P (v ∷ []) x y l b k m h = absurd (omega (arith, l))
two_arguments P (v ∷ w ∷ []) x y l b k m h = subst (λ (a : Value). P (v ∷ a ∷ [])) m (subst (λ (a : Value). P (a ∷ y ∷ [])) k h)
two_arguments P (v ∷ w ∷ u ∷ vs) x y l b k m h = absurd (omega (arith, b))

-- ---- by the kind of a value

pub of_kind : (v : Value) (f : Option Kind → RuleTree) (k : Option Kind) (n : Next) (s : State) (now before : List Frame) → k ≡ kind_of s v → MeansIn s now n (f k) before → MeansIn s now n (on_kind v f) before
of_kind (value.Own m) f k n s now before is h = subst (λ (j : Option Kind). MeansIn s now n (f j) before) is h
of_kind (value.Proxy id) f k n s now before is h = subst (λ (j : Option Kind). MeansIn s now n (f j) before) is h
of_kind v f k n s now before is h = subst (λ (j : Option Kind). MeansIn s now n (f j) before) is h

-- ---- less a view

abbrev view_or_not : Bool → RuleTree
view_or_not b = if b then Stop beyond.Operator else unsupported

-- by whether it is the kind of a view
less : (k : Option Kind) → view_or_not (is_view (none, k)) ≡ less_view k
less None = refl
less (Some kind.List) = refl
less (Some kind.Range) = refl
less (Some kind.Function) = refl
less (Some kind.Bound) = refl
less (Some kind.Dict) = refl
less (Some kind.Namespace) = refl
less (Some kind.Iter) = refl
less (Some kind.View) = refl
less (Some kind.Class) = refl
less (Some kind.Instance) = refl
less (Some kind.Host) = refl
less (Some kind.HostFunc) = refl
less (Some kind.Root) = refl
less (Some kind.Conn) = refl
less (Some kind.Modules) = refl

by_view : (k : Option Kind) (b t : Bool) → b ≡ is_view (none, k) → b ≡ t → view_or_not t ≡ less_view k
by_view k b t is as_told = ap view_or_not (sym as_told ∙ is) ∙ less k

pub less_of_view : (k : Option Kind) (b : Bool) → b ≡ is_view (none, k) → b ≡ true → Stop beyond.Operator ≡ less_view k
less_of_view k b is as_told = by_view k b true is as_told

pub less_of_other : (k : Option Kind) (b : Bool) → b ≡ is_view (none, k) → b ≡ false → unsupported ≡ less_view k
less_of_other k b is as_told = by_view k b false is as_told

pub same_tree : (t u : RuleTree) (r : Result Next NoMemory) → t ≡ u → IfOk r (Plainly t) → IfOk r (Plainly u)
same_tree t u r is h = subst (λ (x : RuleTree). IfOk r (Plainly x)) is h

pub by_kind : (cells : List Cell) (v : Value) (f : Option Kind → RuleTree) (k : Option Kind) (r : Result Next NoMemory) → ((fixed : State) (texts : List Program) → k ≡ kind_of (stated fixed cells texts) v) → IfOk r (Plainly (f k)) → IfOk r (Within cells (on_kind v f))
by_kind cells v f k (Ok n) is h = λ fixed texts stack. of_kind v f k n (stated fixed cells texts) stack stack (is fixed texts) (in_state (stated fixed cells texts) (f k) n stack stack (h stack))
by_kind cells v f k (Err e) is h = h
