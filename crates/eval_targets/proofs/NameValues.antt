-- What goes on with the value of a name.
use Rattle.std.proofs.Common.{◌≡◌, ℕ, List, Option, Some, None, Result, Ok, Err, Bool, true, false, if◌then◌else◌, IfOk, reverse, refl, sym, ◌∙◌, ap, subst}
use mathlib.Core.Path.{fun_ext}
use Rattle.rp_base.specs.declared.ends.NoMemory.{NoMemory}
use Rattle.rp_base.specs.declared.ends.OpEnd.{OpEnd}
use Rattle.rp_base.specs.declared.exceptions.Beyond.{Beyond}
use Rattle.rp_base.specs.declared.exceptions.Beyond.TheVariants as beyond
use Rattle.rp_base.specs.declared.ends.OpEnd.TheVariants as op_end
use Rattle.rp_base.specs.declared.operators.BinaryOp.{BinaryOp}
use Rattle.rp_base.specs.declared.value.Value.{Value}
use Rattle.py_ast.specs.declared.program.Program.{Program}
use Rattle.py_store.specs.Bindings.{bound_value}
use Rattle.py_store.specs.declared.cell.Cell.{Cell}
use Rattle.py_store.specs.declared.cell.Cell.TheVariants as cell
use Rattle.side_trees.proofs.BindLaw.{bind-bind}
use Rattle.side_trees.specs.Trees.{Return, Act, Tell, Stop, Spend, Do, Ask, bind}
use Rattle.language_rules.proofs.RunLemmas.{goes_on}
use Rattle.language_rules.specs.Answers.{gives}
use Rattle.language_rules.specs.AtOnce.{Comes, at_once, stated}
use Rattle.language_rules.specs.Codes.{Completion, Env, Gives, Raises}
use Rattle.language_rules.specs.Going.{RuleTree, done, looks, on_value}
use Rattle.language_rules.specs.Names.{binds_name, Place, Own, Outer, Global, Missing, place_of, reads_at, reads_global, reads_name, reads_variable, unbound_local, unbound_name, value_or}
use Rattle.language_rules.specs.Texts.{has_name}
use Rattle.language_rules.specs.Rules.{expand}
use Rattle.language_rules.specs.Running.{prints_behind, runs}
use Rattle.language_rules.specs.States.{State, cell_at, namespace_number}
use Rattle.language_rules.specs.Targets.{augments}
use Rattle.eval_frames.specs.declared.frame.Frame.{Frame}
use Rattle.eval_frames.specs.declared.frame.Frame.TheVariants as frame
use Rattle.eval_frames.specs.declared.frame.StatementFrame.TheVariants as statement_frame
use Rattle.eval_frames.specs.declared.next.Next.{Next}
use Rattle.eval_frames.specs.Meaning.{MeansIn, RunsAs, enters_over, meant, rest}

-- ---- a name is read, and then its value goes on

value-on : (missing : RuleTree) (f : Value → RuleTree) (v : Option Value) → missing ≡ bind missing (on_value f) → value_or missing f v ≡ bind (value_or missing gives v) (on_value f)
value-on missing f (Some v) h = refl
value-on missing f None h = h

variable-on : (name : List ℕ) (missing : RuleTree) (f : Value → RuleTree) (c : Option Cell) → missing ≡ bind missing (on_value f)
    → reads_variable name missing f c ≡ bind (reads_variable name missing gives c) (on_value f)
variable-on name missing f (Some (cell.Scope names parent)) h = value-on missing f (bound_value name names) h
variable-on name missing f _ h = refl

missing-on : (name : List ℕ) (f : Value → RuleTree) (b : Bool)
    → (if b then Stop beyond.Name else unbound_name name) ≡ bind (if b then Stop beyond.Name else unbound_name name) (on_value f)
missing-on name f true = refl
missing-on name f false = refl

global-on : (name : List ℕ) (f : Value → RuleTree) (c : Option Cell) → reads_global name f c ≡ bind (reads_global name gives c) (on_value f)
global-on name f (Some (cell.Namespace names reserved)) =
    value-on (if has_name name reserved then Stop beyond.Name else unbound_name name) f (bound_value name names) (missing-on name f (has_name name reserved))
global-on name f _ = refl

place-on : (s : State) (name : List ℕ) (f : Value → RuleTree) (p : Place) → reads_at s name f p ≡ bind (reads_at s name gives p) (on_value f)
place-on s name f (Own scope) = variable-on name (unbound_local name) f (cell_at s scope) refl
place-on s name f (Outer scope) = variable-on name (unbound_name name) f (cell_at s scope) refl
place-on s name f Global = global-on name f (cell_at s namespace_number)
place-on s name f Missing = refl

pub name-on : (env : Env) (name : List ℕ) (f : Value → RuleTree) → reads_name env name f ≡ bind (reads_name env name gives) (on_value f)
name-on env name f = ap (λ (h : State → RuleTree). looks h) (fun_ext (λ s. place-on s name f (place_of s env name)))

-- ---- the name is bound

pub name_given : (s : State) (env : Env) (name : List ℕ) (f : Value → RuleTree) (k : Completion → RuleTree) (v : Value)
    → at_once (reads_name env name gives) s ≡ Some (Ok (Gives v), s) → RunsAs s (bind (reads_name env name f) k) (bind (f v) k)
name_given s env name f k v h units printed =
    ap (λ (t : RuleTree). runs units (bind t k) s printed) (name-on env name f)
    ∙ ap (λ (t : RuleTree). runs units t s printed) (bind-bind (reads_name env name gives) (on_value f) k)
    ∙ goes_on expand prints_behind units (reads_name env name gives) (λ a. bind (on_value f a) k) s s printed (Gives v) h

-- ---- the name has no value

-- what an end that was reached at once goes on to
abbrev pub onward : (Completion → RuleTree) → Option (Result Completion Beyond × State) → Option (Result Completion Beyond × State)
onward k (Some (Ok a, now)) = at_once (k a) now
onward k (Some (Err x, now)) = Some (Err x, now)
onward k None = None

pub at-once-on : (t : RuleTree) (k : Completion → RuleTree) (s : State) (o : Option (Result Completion Beyond × State)) → at_once t s ≡ o → at_once (bind t k) s ≡ onward k o
at-once-on (Return b) k s o h = ap (onward k) h
at-once-on (Act g f) k s o h = at-once-on (f s) k (g s) o h
at-once-on (Tell d t) k s o h = ap (onward k) h
at-once-on (Stop x) k s o h = ap (onward k) h
at-once-on (Spend c f) k s o h = ap (onward k) h
at-once-on (Do q c f) k s o h = ap (onward k) h
at-once-on (Ask q c f) k s o h = ap (onward k) h

ends-on : (s : State) (env : Env) (name : List ℕ) (f : Value → RuleTree) (o : Option (Result Completion Beyond × State))
    → at_once (reads_name env name gives) s ≡ o → at_once (reads_name env name f) s ≡ onward (on_value f) o
ends-on s env name f o h = ap (λ (t : RuleTree). at_once t s) (name-on env name f) ∙ at-once-on (reads_name env name gives) (on_value f) s o h

pub name_ends : (s : State) (env : Env) (name : List ℕ) (f : Value → RuleTree) (e : OpEnd)
    → Comes (reads_name env name gives) s (Err e) s s → Comes (reads_name env name f) s (Err e) s s
name_ends s env name f (op_end.Raise r) h = ends-on s env name f (Some (Ok (Raises r), s)) h
name_ends s env name f (op_end.Beyond b) h = ends-on s env name f (Some (Err b, s)) h
name_ends s env name f op_end.NoMemory h = h

-- ---- an augmented assignment to a name

begun_over : (env : Env) (o : BinaryOp) (name : List ℕ) (right : ℕ) (old : Value) (cells : List Cell) (texts : List Program) (now before : List Frame) (result : Result Next NoMemory)
    → ((fixed : State) → Comes (reads_name env name gives) (stated fixed cells texts) (Ok old) (stated fixed cells texts) (stated fixed cells texts))
    → IfOk result (λ n. meant now n ≡ enters_over env right (frame.Statement (statement_frame.AugmentName env o name old)) before)
    → IfOk result (λ n. (fixed : State) → MeansIn (stated fixed cells texts) now n (reads_name env name (λ old. augments env o right old (λ v. binds_name env name v (Return done)))) before)
begun_over env o name right old cells texts now before (Ok n) h g = λ fixed units printed.
    name_given (stated fixed cells texts) env name (λ old. augments env o right old (λ v. binds_name env name v (Return done))) (rest (reverse before)) old (h fixed) units printed
    ∙ ap (λ (t : RuleTree). runs units t (stated fixed cells texts) printed) (sym g)
begun_over env o name right old cells texts now before (Err e) h g = g

-- the name as it was spelled, and as the frame keeps it
pub name_begun : (env : Env) (o : BinaryOp) (name spelled kept : List ℕ) (right : ℕ) (old : Value) (cells : List Cell) (texts : List Program) (now before : List Frame) (result : Result Next NoMemory)
    → spelled ≡ name → kept ≡ name
    → ((fixed : State) → Comes (reads_name env spelled gives) (stated fixed cells texts) (Ok old) (stated fixed cells texts) (stated fixed cells texts))
    → IfOk result (λ n. meant now n ≡ enters_over env right (frame.Statement (statement_frame.AugmentName env o kept old)) before)
    → IfOk result (λ n. (fixed : State) → MeansIn (stated fixed cells texts) now n (reads_name env name (λ old. augments env o right old (λ v. binds_name env name v (Return done)))) before)
name_begun env o name spelled kept right old cells texts now before result is-spelled is-kept h g =
    begun_over env o name right old cells texts now before result
    (subst (λ (x : List ℕ). (fixed : State) → Comes (reads_name env x gives) (stated fixed cells texts) (Ok old) (stated fixed cells texts) (stated fixed cells texts)) is-spelled h)
    (subst (λ (x : List ℕ). IfOk result (λ n. meant now n ≡ enters_over env right (frame.Statement (statement_frame.AugmentName env o x old)) before)) is-kept g)

-- the name has no value: its end is the end of all
pub name_left : (env : Env) (name spelled : List ℕ) (f : Value → RuleTree) (e : OpEnd) (answer : Result Value OpEnd) (cells : List Cell) (texts : List Program) (stack : List Frame) (result : Result Next NoMemory)
    → spelled ≡ name → answer ≡ Err e
    → ((fixed : State) → Comes (reads_name env spelled gives) (stated fixed cells texts) answer (stated fixed cells texts) (stated fixed cells texts))
    → IfOk result (λ n. (s : State) (t : RuleTree) (stack : List Frame) → Comes t s (Err e) s s → MeansIn s stack n t stack)
    → IfOk result (λ n. (fixed : State) → MeansIn (stated fixed cells texts) stack n (reads_name env name f) stack)
name_left env name spelled f e answer cells texts stack (Err x) is-spelled is h g = g
name_left env name spelled f e answer cells texts stack (Ok n) is-spelled is h g =
    let there : (fixed : State) → Comes (reads_name env name gives) (stated fixed cells texts) answer (stated fixed cells texts) (stated fixed cells texts)
    = subst (λ (x : List ℕ). (fixed : State) → Comes (reads_name env x gives) (stated fixed cells texts) answer (stated fixed cells texts) (stated fixed cells texts)) is-spelled h in
    let ends : (fixed : State) → Comes (reads_name env name gives) (stated fixed cells texts) (Err e) (stated fixed cells texts) (stated fixed cells texts)
    = subst (λ (a : Result Value OpEnd). (fixed : State) → Comes (reads_name env name gives) (stated fixed cells texts) a (stated fixed cells texts) (stated fixed cells texts)) is there in
    λ fixed. g (stated fixed cells texts) (reads_name env name f) stack (name_ends (stated fixed cells texts) env name f e (ends fixed))
