-- Methods that are called, and what comes where there is none.
use Rattle.std.proofs.Common.{◌≡◌, ℕ, suc, ◌+◌, ◌++◌, length, arith, Bool, true, List, [], ◌∷◌, codes, reverse, Option, Some, None, Result, Ok, Err, IfOk, is_some, refl, sym, ◌∙◌, ap, subst, if◌then◌else◌}
use mathlib.Core.Path.{fun_ext}
use Rattle.rp_base.specs.declared.ends.NoMemory.{NoMemory}
use Rattle.rp_base.specs.declared.identity.Kind.{Kind}
use Rattle.rp_base.specs.declared.operators.CmpOp.{CmpOp}
use Rattle.rp_base.specs.declared.value.Value.{Value}
use Rattle.rp_base.specs.declared.value.Value.TheVariants as value
use Rattle.object_operations.specs.Names.{special_name}
use Rattle.object_operations.specs.declared.operation.Operation.{Operation}
use Rattle.object_operations.specs.declared.operation.Operation.TheVariants as operation
use Rattle.object_operations.specs.declared.special.Special.{Special}
use Rattle.object_operations.specs.declared.special.Special.TheVariants as special
use Rattle.py_ast.specs.declared.program.Program.{Program}
use Rattle.py_store.specs.Cells.{Cells}
use Rattle.py_store.specs.declared.cell.Binding.{Binding}
use Rattle.py_store.specs.declared.cell.Cell.{Cell}
use Rattle.py_store.specs.declared.cell.Cell.TheVariants as cell
use Rattle.side_trees.specs.Trees.{Return, bind}
use Rattle.language_rules.specs.Answers.{asked, gives}
use Rattle.language_rules.specs.Arithmetic.{calls_operator, gives_result}
use Rattle.language_rules.specs.AtOnce.{stated}
use Rattle.language_rules.specs.Attributes.{by_method, calls_method, calls_or, class_method}
use Rattle.language_rules.specs.Calls.{initialised, initialises, makes_instance}
use Rattle.language_rules.specs.CellComparing.{instance_compare, method_gave, method_of, not_implemented}
use Rattle.language_rules.specs.Codes.{Breaks, Completion, Continues, Drained, Give, Gives, Raises, Returns}
use Rattle.language_rules.specs.Going.{RuleTree, asks, looks, makes, on_value, operates}
use Rattle.language_rules.specs.Kinds.{is_reference, kind_of, on_kind}
use Rattle.language_rules.specs.Operators.{unsupported}
use Rattle.language_rules.specs.Perform.{special_of_cell}
use Rattle.language_rules.specs.Running.{runs}
use Rattle.language_rules.specs.States.{State}
use Rattle.language_rules.specs.Truth.{on_bool, on_truth}
use Rattle.eval_frames.specs.declared.frame.Frame.{Frame}
use Rattle.eval_frames.specs.declared.method_frame.MethodFrame.TheVariants as method_frame
use Rattle.eval_frames.specs.declared.next.Next.{Next}
use Rattle.eval_frames.proofs.Operating.{operates_bound}
use Rattle.eval_frames.specs.declared.frame.Decision.TheVariants as decision
use Rattle.eval_frames.specs.declared.frame.Frame.TheVariants as frame
use Rattle.eval_frames.specs.Meaning.{Means, MeansIn, MeansOver, decides, operates_over, rest}
use Rattle.eval_ranges.proofs.SpecialLemmas.{Plainly, of_kind, same_tree}
use Rattle.eval_instances.specs.declared.calling.After.{After}
use Rattle.eval_instances.specs.declared.calling.After.TheVariants as after
use Rattle.eval_instances.specs.Methods.{AtOnce, Within, goes_on}

-- ---- an operation whose value is the answer is the operation alone

handed_on : (a : Completion) → on_value gives a ≡ Return a
handed_on (Gives v) = refl
handed_on (Raises r) = refl
handed_on (Returns v) = refl
handed_on Breaks = refl
handed_on Continues = refl
handed_on (Drained vs) = refl

pub alone : (o : Operation) → asked o ≡ asks o gives
alone o = ap (λ (k : Completion → RuleTree). operates o (λ a. Give a) k) (fun_ext (λ a. sym (handed_on a)))

-- ---- by the method

-- what is found among the methods
abbrev pub Found : List Cell → ℕ → List ℕ → Option Value → Type 0
Found cells n name found = (fixed : State) (texts : List Program) → found ≡ class_method (stated fixed cells texts) n name

pub method_called : (cells : List Cell) (n : ℕ) (name : List ℕ) (vs : List Value) (f : Value → RuleTree) (missing : RuleTree) (callee : Value) (r : Result Next NoMemory) (now before : List Frame)
    → Found cells n name (Some callee)
    → IfOk r (λ m. Means now m (asks (operation.Call callee (value.Own n ∷ vs)) f) before) → IfOk r (Within cells now (calls_method n name vs f missing) before)
method_called cells n name vs f missing callee (Ok m) now before told h = λ fixed texts units printed.
    ap (λ (o : Option Value). runs units (bind (calls_or n vs f missing o) (rest (reverse before))) (stated fixed cells texts) printed) (sym (told fixed texts))
    ∙ ap (λ (t : RuleTree). runs units t (stated fixed cells texts) printed) (sym h)
method_called cells n name vs f missing callee (Err e) now before told h = h

pub method_missing : (cells : List Cell) (n : ℕ) (name : List ℕ) (vs : List Value) (f : Value → RuleTree) (missing : RuleTree) (r : Result Next NoMemory) (now before : List Frame)
    → Found cells n name None
    → IfOk r (Within cells now missing before) → IfOk r (Within cells now (calls_method n name vs f missing) before)
method_missing cells n name vs f missing (Ok m) now before told h = λ fixed texts units printed.
    ap (λ (o : Option Value). runs units (bind (calls_or n vs f missing o) (rest (reverse before))) (stated fixed cells texts) printed) (sym (told fixed texts))
    ∙ h fixed texts units printed
method_missing cells n name vs f missing (Err e) now before told h = h

-- a step that looks at no state
pub anywhere : (cells : List Cell) (t : RuleTree) (r : Result Next NoMemory) (stack : List Frame) → IfOk r (λ m. (fs : List Frame) → Means fs m t fs) → IfOk r (Within cells stack t stack)
anywhere cells t (Ok m) stack h = λ fixed texts units printed. ap (λ (x : RuleTree). runs units x (stated fixed cells texts) printed) (sym (h stack))
anywhere cells t (Err e) stack h = h

pub here : (cells : List Cell) (t : RuleTree) (r : Result Next NoMemory) (stack : List Frame) → IfOk r (AtOnce cells t) → IfOk r (Within cells stack t stack)
here cells t (Ok m) stack h = λ fixed texts. h fixed texts stack
here cells t (Err e) stack h = h

pub at_once : (cells : List Cell) (t : RuleTree) (r : Result Next NoMemory) → IfOk r (λ m. (fs : List Frame) → Means fs m t fs) → IfOk r (AtOnce cells t)
at_once cells t (Ok m) h = λ fixed texts stack units printed. ap (λ (x : RuleTree). runs units x (stated fixed cells texts) printed) (sym (h stack))
at_once cells t (Err e) h = h

pub missing_at_once : (cells : List Cell) (n : ℕ) (name : List ℕ) (vs : List Value) (f : Value → RuleTree) (missing : RuleTree) (r : Result Next NoMemory)
    → Found cells n name None
    → IfOk r (AtOnce cells missing) → IfOk r (AtOnce cells (calls_method n name vs f missing))
missing_at_once cells n name vs f missing (Ok m) told h = λ fixed texts stack units printed.
    ap (λ (o : Option Value). runs units (bind (calls_or n vs f missing o) (rest (reverse stack))) (stated fixed cells texts) printed) (sym (told fixed texts))
    ∙ h fixed texts stack units printed
missing_at_once cells n name vs f missing (Err e) told h = h

-- by whether there is one
pub by_told : (cells : List Cell) (n : ℕ) (name : List ℕ) (there missing : RuleTree) (b t : Bool) (r : Result Next NoMemory)
    → ((fixed : State) (texts : List Program) → b ≡ is_some (class_method (stated fixed cells texts) n name)) → b ≡ t
    → IfOk r (AtOnce cells (if t then there else missing)) → IfOk r (AtOnce cells (by_method n name there missing))
by_told cells n name there missing b t (Ok m) told is h = λ fixed texts stack units printed.
    ap (λ (x : Bool). runs units (bind (if x then there else missing) (rest (reverse stack))) (stated fixed cells texts) printed) (sym (told fixed texts) ∙ is)
    ∙ h fixed texts stack units printed
by_told cells n name there missing b t (Err e) told is h = h

-- ---- an operation over what goes on with its value

pub over_frame : (o : Operation) (f : Frame) (a as_told : After) (r : Result Next NoMemory) (now before : List Frame) → a ≡ as_told → operates_over o f ≡ asks o (goes_on as_told)
    → IfOk r (λ m. Means now m (operates_over o f) before) → IfOk r (λ m. Means now m (asks o (goes_on a)) before)
over_frame o f a as_told (Ok m) now before is so h = h ∙ ap (λ (t : RuleTree). bind t (rest (reverse before))) (so ∙ ap (λ (b : After). asks o (goes_on b)) (sym is))
over_frame o f a as_told (Err e) now before is so h = h

pub over_none : (o : Operation) (a : After) (m : Next) (stack : List Frame) → a ≡ after.Answer → Means stack m (asked o) stack → Means stack m (asks o (goes_on a)) stack
over_none o a m stack is h = h ∙ ap (λ (t : RuleTree). bind t (rest (reverse stack))) (alone o ∙ ap (λ (b : After). asks o (goes_on b)) (sym is))

-- an object that is asked for its truth
pub truth_asked : (v copied : Value) → copied ≡ v → is_reference v ≡ true → operates_over (operation.Special copied special.Bool []) (frame.Truth decision.Not v) ≡ on_truth v (decides decision.Not v)
truth_asked (value.Own n) copied is h =
    ap (λ (x : Value). operates_over (operation.Special x special.Bool []) (frame.Truth decision.Not (value.Own n))) is
    ∙ sym (operates_bound (operation.Special (value.Own n) special.Bool []) (λ a. Give a) (λ a. Return a) (on_bool (decides decision.Not (value.Own n))))
truth_asked (value.Proxy id) copied is h =
    ap (λ (x : Value). operates_over (operation.Special x special.Bool []) (frame.Truth decision.Not (value.Proxy id))) is
    ∙ sym (operates_bound (operation.Special (value.Proxy id) special.Bool []) (λ a. Give a) (λ a. Return a) (on_bool (decides decision.Not (value.Proxy id))))
truth_asked _ copied is h = cc

pub means_as : (t u : RuleTree) (r : Result Next NoMemory) (now before : List Frame) → t ≡ u → IfOk r (λ m. Means now m t before) → IfOk r (λ m. Means now m u before)
means_as t u r now before is h = subst (λ (x : RuleTree). IfOk r (λ m. Means now m x before)) is h

-- ---- by the kind of a value

pub kinded : (cells : List Cell) (v : Value) (f : Option Kind → RuleTree) (k : Option Kind) (r : Result Next NoMemory) → ((fixed : State) (texts : List Program) → k ≡ kind_of (stated fixed cells texts) v)
    → IfOk r (AtOnce cells (f k)) → IfOk r (AtOnce cells (on_kind v f))
kinded cells v f k (Ok m) is h = λ fixed texts stack. of_kind v f k m (stated fixed cells texts) stack stack (is fixed texts) (h fixed texts stack)
kinded cells v f k (Err e) is h = h

pub same_at_once : (cells : List Cell) (t u : RuleTree) (r : Result Next NoMemory) → t ≡ u → IfOk r (AtOnce cells t) → IfOk r (AtOnce cells u)
same_at_once cells t u r is h = subst (λ (x : RuleTree). IfOk r (AtOnce cells x)) is h

-- ---- by what a test told

pub told : {X : Type 0} (f : X → RuleTree) (u : RuleTree) (x as_told : X) (r : Result Next NoMemory) → u ≡ f x → x ≡ as_told → IfOk r (Plainly (f as_told)) → IfOk r (Plainly u)
told f u x as_told r so is h = same_tree (f as_told) u r (ap f (sym is) ∙ sym so) h

-- ---- instances, by the name of the operation

abbrev pub OnInstances : List Cell → List Frame → ℕ → List Value → Special → List Frame → Next → Type 0
OnInstances cells now n vs o before next = (class_no : ℕ) (attributes : List Binding) → Within cells now (special_of_cell o n vs (cell.Instance class_no attributes)) before next

any_instance : (cells : List Cell) (now before : List Frame) (n : ℕ) (vs : List Value) (o : Special) (r : Result Next NoMemory) (t : RuleTree) → ((class_no : ℕ) (attributes : List Binding) → t ≡ special_of_cell o n vs (cell.Instance class_no attributes))
    → IfOk r (Within cells now t before) → IfOk r (OnInstances cells now n vs o before)
any_instance cells now before n vs o (Ok m) t so h = λ class_no attributes. subst (λ (x : RuleTree). Within cells now x before m) (so class_no attributes) h
any_instance cells now before n vs o (Err e) t so h = h

pub on_instances : (cells : List Cell) (now before : List Frame) (n : ℕ) (vs : List Value) (o as_told : Special) (r : Result Next NoMemory) (t : RuleTree) → o ≡ as_told
    → ((class_no : ℕ) (attributes : List Binding) → t ≡ special_of_cell as_told n vs (cell.Instance class_no attributes))
    → IfOk r (Within cells now t before) → IfOk r (OnInstances cells now n vs o before)
on_instances cells now before n vs o as_told r t is so h =
    subst (λ (p : Special). IfOk r (OnInstances cells now n vs p before)) (sym is) (any_instance cells now before n vs as_told r t so h)

-- ---- `__init__` and comparisons

pub looked_called : (cells : List Cell) (n : ℕ) (vs : List Value) (callee : Value) (r : Result Next NoMemory) (now before : List Frame) → Found cells n (codes "__init__") (Some callee)
    → IfOk r (λ m. Means now m (asks (operation.Call callee (value.Own n ∷ vs)) (initialised n)) before)
    → IfOk r (Within cells now (looks (λ s. initialises n vs (class_method s n (codes "__init__")))) before)
looked_called cells n vs callee (Ok m) now before is h = λ fixed texts units printed.
    ap (λ (o : Option Value). runs units (bind (initialises n vs o) (rest (reverse before))) (stated fixed cells texts) printed) (sym (is fixed texts))
    ∙ ap (λ (t : RuleTree). runs units t (stated fixed cells texts) printed) (sym h)
looked_called cells n vs callee (Err e) now before is h = h

pub looked_missing : (cells : List Cell) (n : ℕ) (vs : List Value) (r : Result Next NoMemory) (stack : List Frame) → Found cells n (codes "__init__") None
    → IfOk r (Plainly (initialises n vs None)) → IfOk r (Within cells stack (looks (λ s. initialises n vs (class_method s n (codes "__init__")))) stack)
looked_missing cells n vs (Ok m) stack is h = λ fixed texts units printed.
    ap (λ (o : Option Value). runs units (bind (initialises n vs o) (rest (reverse stack))) (stated fixed cells texts) printed) (sym (is fixed texts))
    ∙ ap (λ (t : RuleTree). runs units t (stated fixed cells texts) printed) (sym (h stack))
looked_missing cells n vs (Err e) stack is h = h

pub compared : (cells : List Cell) (n : ℕ) (o : CmpOp) (other : Value) (name : List ℕ) (vs : List Value) (a : After) (callee : Value) (r : Result Next NoMemory) (now before : List Frame)
    → name ≡ method_of o → vs ≡ other ∷ [] → goes_on a ≡ method_gave o → Found cells n name (Some callee)
    → IfOk r (λ m. Means now m (asks (operation.Call callee (value.Own n ∷ vs)) (goes_on a)) before) → IfOk r (Within cells now (instance_compare n o other) before)
compared cells n o other name vs a callee r now before named one gave is h =
    method_called cells n (method_of o) (other ∷ []) (method_gave o) not_implemented callee r now before
    (subst (λ (w : List ℕ). Found cells n w (Some callee)) named is)
    (means_as (asks (operation.Call callee (value.Own n ∷ vs)) (goes_on a)) (asks (operation.Call callee (value.Own n ∷ other ∷ [])) (method_gave o)) r now before
    (ap (λ (ws : List Value). asks (operation.Call callee (value.Own n ∷ ws)) (goes_on a)) one ∙ ap (λ (f : Value → RuleTree). asks (operation.Call callee (value.Own n ∷ other ∷ [])) f) gave) h)

-- ---- a new cell

pub made : (old new : Cells) (c placed : Cell) (i : ℕ) (f : ℕ → RuleTree) (r : Result Next NoMemory) (now before : List Frame) → i ≡ length old.cells + 1 → new ≡ record old { cells = old.cells ++ placed ∷ [] } → placed ≡ c
    → IfOk r (Within new.cells now (f i) before) → IfOk r (λ m. (fixed : State) (texts : List Program) → MeansOver (stated fixed old.cells texts) (stated fixed new.cells texts) now m (makes c f) before)
made old new c placed i f (Ok m) now before p q e h = λ fixed texts units printed.
    let one : suc (length old.cells) ≡ i = omega (arith, p) in
    ap (λ (k : ℕ). runs units (bind (f k) (rest (reverse before))) (stated fixed (old.cells ++ c ∷ []) texts) printed) one
    ∙ ap (λ (d : Cell). runs units (bind (f i) (rest (reverse before))) (stated fixed (old.cells ++ d ∷ []) texts) printed) (sym e)
    ∙ ap (λ (st : Cells). runs units (bind (f i) (rest (reverse before))) (stated fixed st.cells texts) printed) (sym q)
    ∙ h fixed texts units printed
made old new c placed i f (Err x) now before p q e h = h

-- ---- two arguments that are copies

pub two_told : (cells : List Cell) (now before : List Frame) (n : ℕ) (name : List ℕ) (x copied_x y copied_y : Value) (f : Value → RuleTree) (missing : RuleTree) (r : Result Next NoMemory) → copied_x ≡ x → copied_y ≡ y
    → IfOk r (Within cells now (calls_method n name (copied_x ∷ copied_y ∷ []) f missing) before) → IfOk r (Within cells now (calls_method n name (x ∷ y ∷ []) f missing) before)
two_told cells now before n name x copied_x y copied_y f missing r p q h =
    subst (λ (v : Value). IfOk r (Within cells now (calls_method n name (v ∷ y ∷ []) f missing) before)) p
    (subst (λ (w : Value). IfOk r (Within cells now (calls_method n name (copied_x ∷ w ∷ []) f missing) before)) q h)

pub instance_made : (old new : Cells) (class_no i : ℕ) (vs as_told : List Value) (bs : List Binding) (r : Result Next NoMemory) (now before : List Frame) → i ≡ length old.cells + 1 → new ≡ record old { cells = old.cells ++ cell.Instance class_no bs ∷ [] } → bs ≡ [] → as_told ≡ vs
    → IfOk r (Within new.cells now (looks (λ s. initialises i as_told (class_method s i (codes "__init__")))) before) → IfOk r (λ m. (fixed : State) (texts : List Program) → MeansOver (stated fixed old.cells texts) (stated fixed new.cells texts) now m (makes_instance class_no vs) before)
instance_made old new class_no i vs as_told bs r now before p q e same h =
    made old new (cell.Instance class_no []) (cell.Instance class_no bs) i (λ j. looks (λ s. initialises j vs (class_method s j (codes "__init__")))) r now before p q (ap (λ (cs : List Binding). cell.Instance class_no cs) e)
    (subst (λ (ws : List Value). IfOk r (Within new.cells now (looks (λ s. initialises i ws (class_method s i (codes "__init__")))) before)) same h)

-- ---- operators

pub operator_told : (cells : List Cell) (now before : List Frame) (n : ℕ) (o : Special) (x : Value) (name : List ℕ) (vs : List Value) (r : Result Next NoMemory) → name ≡ special_name o → vs ≡ x ∷ []
    → IfOk r (Within cells now (calls_method n name vs (goes_on (after.Method method_frame.Operator)) unsupported) before) → IfOk r (Within cells now (calls_operator n o x unsupported) before)
operator_told cells now before n o x name vs r named one h =
    subst (λ (w : List ℕ). IfOk r (Within cells now (calls_method n w (x ∷ []) gives_result unsupported) before)) named
    (subst (λ (ws : List Value). IfOk r (Within cells now (calls_method n name ws gives_result unsupported) before)) one h)
