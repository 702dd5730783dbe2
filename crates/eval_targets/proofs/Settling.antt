-- How far an assignment comes, in every run.
use Rattle.std.proofs.Common.{◌≡◌, ◌==◌, Bool, true, false, codes, ℕ, ◌∷◌, [], ◌++◌, List, length, reverse, slice_get, Option, Some, None, Result, Ok, Err, IfOk, OnErr, sym, ◌∙◌, ap, subst}
use Rattle.std.proofs.lemmas.Bool.{ne_eqb}
use Rattle.std.proofs.lemmas.List.{length-reverse, reverse-append}
use Rattle.rp_base.specs.declared.ends.NoMemory.{NoMemory}
use Rattle.rp_base.specs.declared.ends.OpEnd.{OpEnd}
use Rattle.rp_base.specs.declared.ends.OpEnd.TheVariants as op_end
use Rattle.rp_base.specs.declared.exceptions.Beyond.{Beyond}
use Rattle.rp_base.specs.declared.exceptions.ExcKind.TheVariants as exception
use Rattle.rp_base.specs.declared.exceptions.Raised.{Raised}
use Rattle.rp_base.specs.declared.identity.Kind.{Kind}
use Rattle.rp_base.specs.declared.value.Value.{Value}
use Rattle.py_ast.specs.declared.node.Node.{Node}
use Rattle.py_ast.specs.declared.node.Node.TheVariants as node
use Rattle.py_ast.specs.declared.program.Program.{Program}
use Rattle.py_ast.specs.declared.target.Target.{Target}
use Rattle.py_store.specs.Cells.{Cells}
use Rattle.py_store.specs.declared.cell.Cell.{Cell}
use Rattle.side_trees.proofs.BindLaw.{bind-bind}
use Rattle.side_trees.specs.Trees.{Return, Stop, bind}
use Rattle.language_rules.proofs.RunLemmas.{goes_on, leaves}
use Rattle.language_rules.specs.AtOnce.{Comes, stated}
use Rattle.language_rules.specs.Codes.{AList, Completion, Env, Raises}
use Rattle.language_rules.specs.Draining.{counted, goes_over, items_at_hand, unpacks, unpacks_kind}
use Rattle.language_rules.specs.Going.{RuleTree, done, evaluates, fails, on_value}
use Rattle.language_rules.specs.Kinds.{on_kind}
use Rattle.language_rules.specs.Rules.{expand}
use Rattle.language_rules.specs.Running.{prints_behind, runs}
use Rattle.language_rules.specs.States.{State}
use Rattle.language_rules.specs.Targets.{assigns_each, assigns_place}
use Rattle.language_rules.specs.Texts.{as_target, node_of, on_target}
use Rattle.eval_frames.specs.declared.frame.Frame.{Frame}
use Rattle.eval_frames.specs.declared.next.Next.{Next}
use Rattle.eval_frames.specs.Meaning.{Means, MeansIn, MeansOver, rest}
use Rattle.eval_frames.specs.TargetFrames.{through_target}
use Rattle.eval_names.specs.Bound.{as_done}
use Rattle.eval_targets.proofs.KindedOperands.{IsKind, kind_on}
use Rattle.eval_targets.specs.declared.places.Place.{Place}
use Rattle.eval_targets.specs.declared.settled.Assigning.{Assigning}
use Rattle.eval_targets.specs.declared.settled.Assigning.TheVariants as assigning
use Rattle.eval_targets.specs.declared.settled.Waiting.TheVariants as waiting
use Rattle.eval_targets.specs.Settled.{GoesOnAs, Placed, settled}

-- ---- the target of a number

on_found : (env : Env) (n : ℕ) (f : Target → RuleTree) (t : Target) (texts : List Program) (fixed s' : State) (cells : List Cell) (x : RuleTree)
    → node_of (slice_get texts env.text) n ≡ Some (node.Target t)
    → GoesOnAs (stated fixed cells texts) (f t) s' x → GoesOnAs (stated fixed cells texts) (on_target env n f) s' x
on_found env n f t texts fixed s' cells x is h k units printed =
    ap (λ (m : Option Node). runs units (bind (as_target f m) k) (stated fixed cells texts) printed) is ∙ h k units printed

pub settled_found : (env : Env) (n : ℕ) (f : Target → RuleTree) (t : Target) (before after : List Cell) (texts : List Program) (result : Result Assigning NoMemory)
    → node_of (slice_get texts env.text) n ≡ Some (node.Target t)
    → IfOk result (λ a. (fixed : State) → GoesOnAs (stated fixed before texts) (f t) (stated fixed after texts) (settled a))
    → IfOk result (λ a. (fixed : State) → GoesOnAs (stated fixed before texts) (on_target env n f) (stated fixed after texts) (settled a))
settled_found env n f t before after texts (Ok a) is h = λ fixed. on_found env n f t texts fixed (stated fixed after texts) before (settled a) is (h fixed)
settled_found env n f t before after texts (Err e) is h = tt

pub placed_found : (env : Env) (n : ℕ) (f : Target → RuleTree) (t : Target) (before after : List Cell) (texts : List Program) (result : Result (Option Place) OpEnd)
    → node_of (slice_get texts env.text) n ≡ Some (node.Target t)
    → ((fixed : State) → Placed env (stated fixed before texts) (f t) (stated fixed after texts) result)
    → (fixed : State) → Placed env (stated fixed before texts) (on_target env n f) (stated fixed after texts) result
placed_found env n f t before after texts (Ok None) is h fixed = on_found env n f t texts fixed (stated fixed after texts) before (Return done) is (h fixed)
placed_found env n f t before after texts (Ok (Some p)) is h fixed = on_found env n f t texts fixed (stated fixed after texts) before (evaluates env p.number (through_target p.frame)) is (h fixed)
placed_found env n f t before after texts (Err (op_end.Raise r)) is h fixed = on_found env n f t texts fixed (stated fixed after texts) before (Return (Raises r)) is (h fixed)
placed_found env n f t before after texts (Err (op_end.Beyond b)) is h fixed = on_found env n f t texts fixed (stated fixed after texts) before (Stop b) is (h fixed)
placed_found env n f t before after texts (Err op_end.NoMemory) is h fixed = tt

pub means_found : (env : Env) (n : ℕ) (f : Target → RuleTree) (t : Target) (cells : List Cell) (texts : List Program) (now before : List Frame) (result : Result Next NoMemory)
    → node_of (slice_get texts env.text) n ≡ Some (node.Target t)
    → IfOk result (λ x. (fixed : State) → MeansOver (stated fixed cells texts) (stated fixed cells texts) now x (f t) before)
    → IfOk result (λ x. (fixed : State) → MeansOver (stated fixed cells texts) (stated fixed cells texts) now x (on_target env n f) before)
means_found env n f t cells texts now before (Ok x) is h = λ fixed units printed.
    ap (λ (m : Option Node). runs units (bind (as_target f m) (rest (reverse before))) (stated fixed cells texts) printed) is ∙ h fixed units printed
means_found env n f t cells texts now before (Err e) is h = tt

-- ---- a name

-- it is bound
pub name_bound : (env : Env) (t : RuleTree) (before after : List Cell) (texts : List Program) (answer : Result (Unit {0}) OpEnd) (u : Unit {0})
    → answer ≡ Ok u
    → ((fixed : State) → Comes t (stated fixed before texts) (as_done answer) (stated fixed after texts) (stated fixed before texts))
    → (fixed : State) → GoesOnAs (stated fixed before texts) t (stated fixed after texts) (Return done)
name_bound env t before after texts answer u is h fixed k units printed =
    goes_on expand prints_behind units t k (stated fixed before texts) (stated fixed after texts) printed done
    (subst (λ (a : Result (Unit {0}) OpEnd). Comes t (stated fixed before texts) (as_done a) (stated fixed after texts) (stated fixed before texts)) is (h fixed))

-- it is not, and the cells are kept
not_bound_by : (env : Env) (t : RuleTree) (before after : Cells) (texts : List Program) (e : OpEnd) (fixed : State)
    → after ≡ before → Comes t (stated fixed before.cells texts) (Err e) (stated fixed after.cells texts) (stated fixed before.cells texts)
    → Placed env (stated fixed before.cells texts) t (stated fixed after.cells texts) (Err e)
not_bound_by env t before after texts (op_end.Raise r) fixed kept h = λ k units printed.
    goes_on expand prints_behind units t k (stated fixed before.cells texts) (stated fixed before.cells texts) printed (Raises r) h
    ∙ ap (λ (store : Cells). runs units (k (Raises r)) (stated fixed store.cells texts) printed) (sym kept)
not_bound_by env t before after texts (op_end.Beyond b) fixed kept h = λ k units printed.
    leaves expand prints_behind units t k (stated fixed before.cells texts) (stated fixed before.cells texts) printed b h
    ∙ ap (λ (store : Cells). runs units (bind (Stop b) k) (stated fixed store.cells texts) printed) (sym kept)
not_bound_by env t before after texts op_end.NoMemory fixed kept h = tt

pub name_not_bound : (env : Env) (t : RuleTree) (before after : Cells) (texts : List Program) (answer : Result (Unit {0}) OpEnd) (e : OpEnd)
    → answer ≡ Err e
    → ((fixed : State) → Comes t (stated fixed before.cells texts) (as_done answer) (stated fixed after.cells texts) (stated fixed before.cells texts))
    → OnErr answer (after ≡ before)
    → (fixed : State) → Placed env (stated fixed before.cells texts) t (stated fixed after.cells texts) (Err e)
name_not_bound env t before after texts answer e is h kept fixed =
    not_bound_by env t before after texts e fixed
    (subst (λ (a : Result (Unit {0}) OpEnd). OnErr a (after ≡ before)) is kept)
    (subst (λ (a : Result (Unit {0}) OpEnd). Comes t (stated fixed before.cells texts) (as_done a) (stated fixed after.cells texts) (stated fixed before.cells texts)) is (h fixed))

-- ---- targets, one after another

-- what goes on behind
pub behind : (s s' : State) (t x : RuleTree) (f : Completion → RuleTree) → GoesOnAs s t s' x → GoesOnAs s (bind t f) s' (bind x f)
behind s s' t x f h k units printed =
    ap (λ (u : RuleTree). runs units u s printed) (bind-bind t f k)
    ∙ h (λ a. bind (f a) k) units printed
    ∙ ap (λ (u : RuleTree). runs units u s' printed) (sym (bind-bind x f k))

-- what is left of the assignments, in the cells now, is all that was to do, in the cells before
abbrev pub IsLeft : Env → List Program → List ℕ → List Value → Cells → List ℕ → List Value → Cells → Type 0
IsLeft env texts targets values before targets' values' now = (fixed : State)
    → GoesOnAs (stated fixed before.cells texts) (assigns_each env (reverse targets) (reverse values)) (stated fixed now.cells texts) (assigns_each env (reverse targets') (reverse values'))

-- the next target and the next value
abbrev next_assigned : Env → ℕ → Value → List ℕ → List Value → RuleTree
next_assigned env t v ts vs = bind (on_target env t (assigns_place env v)) (on_value (λ a. assigns_each env (reverse ts) (reverse vs)))

opened : (env : Env) (texts : List Program) (targets : List ℕ) (values : List Value) (before now : Cells) (targets' : List ℕ) (values' : List Value) (t : ℕ) (v : Value) (ts : List ℕ) (vs : List Value)
    → IsLeft env texts targets values before targets' values' now → targets' ≡ ts ++ t ∷ [] → values' ≡ vs ++ v ∷ []
    → (fixed : State) → GoesOnAs (stated fixed before.cells texts) (assigns_each env (reverse targets) (reverse values)) (stated fixed now.cells texts) (next_assigned env t v ts vs)
opened env texts targets values before now targets' values' t v ts vs h is-t is-v fixed k units printed =
    h fixed k units printed
    ∙ ap (λ (ns : List ℕ). runs units (bind (assigns_each env ns (reverse values')) k) (stated fixed now.cells texts) printed) (ap (λ (ns : List ℕ). reverse ns) is-t ∙ reverse-append ts (t ∷ []))
    ∙ ap (λ (ws : List Value). runs units (bind (assigns_each env (t ∷ reverse ts) ws) k) (stated fixed now.cells texts) printed) (ap (λ (ws : List Value). reverse ws) is-v ∙ reverse-append vs (v ∷ []))

abbrev IsPlaced : Env → List Program → ℕ → Value → Cells → Cells → Result (Option Place) OpEnd → Type 0
IsPlaced env texts t v now after placed = (fixed : State) → Placed env (stated fixed now.cells texts) (on_target env t (assigns_place env v)) (stated fixed after.cells texts) placed

-- it is a name, which is bound
pub one_bound : (env : Env) (texts : List Program) (targets : List ℕ) (values : List Value) (before now after : Cells) (targets' : List ℕ) (values' : List Value) (t : ℕ) (v : Value) (ts : List ℕ) (vs : List Value) (placed : Result (Option Place) OpEnd)
    → IsLeft env texts targets values before targets' values' now → targets' ≡ ts ++ t ∷ [] → values' ≡ vs ++ v ∷ []
    → placed ≡ Ok None → IsPlaced env texts t v now after placed
    → IsLeft env texts targets values before ts vs after
one_bound env texts targets values before now after targets' values' t v ts vs placed h is-t is-v is p = λ fixed k units printed.
    opened env texts targets values before now targets' values' t v ts vs h is-t is-v fixed k units printed
    ∙ behind (stated fixed now.cells texts) (stated fixed after.cells texts) (on_target env t (assigns_place env v)) (Return done) (on_value (λ a. assigns_each env (reverse ts) (reverse vs)))
    (subst (λ (r : Result (Option Place) OpEnd). Placed env (stated fixed now.cells texts) (on_target env t (assigns_place env v)) (stated fixed after.cells texts) r) is (p fixed)) k units printed

-- it is an attribute or an item
pub one_waits : (env : Env) (texts : List Program) (targets : List ℕ) (values : List Value) (before now after : Cells) (targets' : List ℕ) (values' : List Value) (t : ℕ) (v : Value) (ts : List ℕ) (vs : List Value) (placed : Result (Option Place) OpEnd) (place : Place) (a : Assigning)
    → IsLeft env texts targets values before targets' values' now → targets' ≡ ts ++ t ∷ [] → values' ≡ vs ++ v ∷ []
    → placed ≡ Ok (Some place) → IsPlaced env texts t v now after placed
    → settled a ≡ bind (evaluates env place.number (through_target place.frame)) (on_value (λ a. assigns_each env (reverse ts) (reverse vs)))
    → (fixed : State) → GoesOnAs (stated fixed before.cells texts) (assigns_each env (reverse targets) (reverse values)) (stated fixed after.cells texts) (settled a)
one_waits env texts targets values before now after targets' values' t v ts vs placed place a h is-t is-v is p g = λ fixed k units printed.
    opened env texts targets values before now targets' values' t v ts vs h is-t is-v fixed k units printed
    ∙ behind (stated fixed now.cells texts) (stated fixed after.cells texts) (on_target env t (assigns_place env v)) (evaluates env place.number (through_target place.frame)) (on_value (λ a. assigns_each env (reverse ts) (reverse vs)))
    (subst (λ (r : Result (Option Place) OpEnd). Placed env (stated fixed now.cells texts) (on_target env t (assigns_place env v)) (stated fixed after.cells texts) r) is (p fixed)) k units printed
    ∙ ap (λ (u : RuleTree). runs units (bind u k) (stated fixed after.cells texts) printed) (sym g)

-- it ends the assignments
pub ends_raised : (env : Env) (s s' : State) (t : RuleTree) (f : Value → RuleTree) (e : OpEnd) (r : Raised) → e ≡ op_end.Raise r → Placed env s t s' (Err e) → GoesOnAs s (bind t (on_value f)) s' (Return (Raises r))
ends_raised env s s' t f e r is h = behind s s' t (Return (Raises r)) (on_value f) (subst (λ (x : OpEnd). Placed env s t s' (Err x)) is h)

pub ends_left : (env : Env) (s s' : State) (t : RuleTree) (f : Value → RuleTree) (e : OpEnd) (b : Beyond) → e ≡ op_end.Beyond b → Placed env s t s' (Err e) → GoesOnAs s (bind t (on_value f)) s' (Stop b)
ends_left env s s' t f e b is h = behind s s' t (Stop b) (on_value f) (subst (λ (x : OpEnd). Placed env s t s' (Err x)) is h)

pub one_ends : (env : Env) (texts : List Program) (targets : List ℕ) (values : List Value) (before now after : Cells) (targets' : List ℕ) (values' : List Value) (t : ℕ) (v : Value) (ts : List ℕ) (vs : List Value) (placed : Result (Option Place) OpEnd) (e : OpEnd) (result : Result Assigning NoMemory)
    → IsLeft env texts targets values before targets' values' now → targets' ≡ ts ++ t ∷ [] → values' ≡ vs ++ v ∷ []
    → placed ≡ Err e → IsPlaced env texts t v now after placed
    → IfOk result (λ a. (env : Env) (s s' : State) (t : RuleTree) (f : Value → RuleTree) → Placed env s t s' (Err e) → GoesOnAs s (bind t (on_value f)) s' (settled a))
    → IfOk result (λ a. (fixed : State) → GoesOnAs (stated fixed before.cells texts) (assigns_each env (reverse targets) (reverse values)) (stated fixed after.cells texts) (settled a))
one_ends env texts targets values before now after targets' values' t v ts vs placed e (Ok a) h is-t is-v is p g = λ fixed k units printed.
    opened env texts targets values before now targets' values' t v ts vs h is-t is-v fixed k units printed
    ∙ g env (stated fixed now.cells texts) (stated fixed after.cells texts) (on_target env t (assigns_place env v)) (λ a. assigns_each env (reverse ts) (reverse vs))
    (subst (λ (r : Result (Option Place) OpEnd). Placed env (stated fixed now.cells texts) (on_target env t (assigns_place env v)) (stated fixed after.cells texts) r) is (p fixed)) k units printed
one_ends env texts targets values before now after targets' values' t v ts vs placed e (Err x) h is-t is-v is p g = tt

-- no target is left, or no value
pub all_assigned : (env : Env) (texts : List Program) (targets : List ℕ) (values : List Value) (before now : Cells) (targets' : List ℕ) (values' : List Value)
    → IsLeft env texts targets values before targets' values' now → targets' ≡ []
    → (fixed : State) → GoesOnAs (stated fixed before.cells texts) (assigns_each env (reverse targets) (reverse values)) (stated fixed now.cells texts) (Return done)
all_assigned env texts targets values before now targets' values' h is fixed k units printed =
    h fixed k units printed
    ∙ ap (λ (ts : List ℕ). runs units (bind (assigns_each env (reverse ts) (reverse values')) k) (stated fixed now.cells texts) printed) is

pub all_given : (env : Env) (texts : List Program) (targets : List ℕ) (values : List Value) (before now : Cells) (targets' : List ℕ) (values' : List Value) (ts : List ℕ) (t : ℕ)
    → IsLeft env texts targets values before targets' values' now → targets' ≡ ts ++ t ∷ [] → values' ≡ []
    → (fixed : State) → GoesOnAs (stated fixed before.cells texts) (assigns_each env (reverse targets) (reverse values)) (stated fixed now.cells texts) (Return done)
all_given env texts targets values before now targets' values' ts t h is-t is-v fixed k units printed =
    h fixed k units printed
    ∙ ap (λ (ns : List ℕ). runs units (bind (assigns_each env ns (reverse values')) k) (stated fixed now.cells texts) printed) (ap (λ (ns : List ℕ). reverse ns) is-t ∙ reverse-append ts (t ∷ []))
    ∙ ap (λ (vs : List Value). runs units (bind (assigns_each env (t ∷ reverse ts) (reverse vs)) k) (stated fixed now.cells texts) printed) is-v

-- ---- the items of a value

abbrev unpacked : Value → ℕ → (List Value → RuleTree) → Option (List Value) → RuleTree
unpacked v n f found = elim found [ Some items ↦ counted n f items | None ↦ on_kind v (unpacks_kind (goes_over AList v (counted n f))) ]

-- they are at hand
pub unpacked_at_hand : (v : Value) (n : ℕ) (f : List Value → RuleTree) (found : Option (List Value)) (items : List Value) (before after : List Cell) (texts : List Program) (result : Result Assigning NoMemory)
    → found ≡ items_at_hand v → found ≡ Some items
    → IfOk result (λ a. (fixed : State) → GoesOnAs (stated fixed before texts) (counted n f items) (stated fixed after texts) (settled a))
    → IfOk result (λ a. (fixed : State) → GoesOnAs (stated fixed before texts) (unpacks v n f) (stated fixed after texts) (settled a))
unpacked_at_hand v n f found items before after texts (Ok a) told is h = λ fixed k units printed.
    ap (λ (o : Option (List Value)). runs units (bind (unpacked v n f o) k) (stated fixed before texts) printed) (sym told ∙ is)
    ∙ h fixed k units printed
unpacked_at_hand v n f found items before after texts (Err e) told is h = tt

-- they are not
pub unpacked_by_kind : (v : Value) (n : ℕ) (f : List Value → RuleTree) (x : Option Kind) (found : Option (List Value)) (cells : List Cell) (texts : List Program) (result : Result Assigning NoMemory)
    → found ≡ items_at_hand v → found ≡ None → IsKind x cells v
    → IfOk result (λ a. settled a ≡ unpacks_kind (goes_over AList v (counted n f)) x)
    → IfOk result (λ a. (fixed : State) → GoesOnAs (stated fixed cells texts) (unpacks v n f) (stated fixed cells texts) (settled a))
unpacked_by_kind v n f x found cells texts (Ok a) told is is-x h = λ fixed k units printed.
    let over : RuleTree = goes_over AList v (counted n f) in
    ap (λ (o : Option (List Value)). runs units (bind (unpacked v n f o) k) (stated fixed cells texts) printed) (sym told ∙ is)
    ∙ kind_on (stated fixed cells texts) v (unpacks_kind over) k units printed
    ∙ ap (λ (y : Option Kind). runs units (bind (unpacks_kind over y) k) (stated fixed cells texts) printed) (sym (is-x fixed texts))
    ∙ ap (λ (t : RuleTree). runs units (bind t k) (stated fixed cells texts) printed) (sym h)
unpacked_by_kind v n f x found cells texts (Err e) told is is-x h = tt

-- ---- on a stack

-- an assignment that came so far, and what comes next in it
pub settled_next : (t : RuleTree) (a : Assigning) (before after : List Cell) (texts : List Program) (now stack : List Frame) (result : Result Next NoMemory)
    → ((fixed : State) → GoesOnAs (stated fixed before texts) t (stated fixed after texts) (settled a))
    → IfOk result (λ n. Means now n (settled a) stack)
    → IfOk result (λ n. (fixed : State) → MeansOver (stated fixed before texts) (stated fixed after texts) now n t stack)
settled_next t a before after texts now stack (Ok n) h g = λ fixed units printed.
    h fixed (rest (reverse stack)) units printed
    ∙ ap (λ (u : RuleTree). runs units u (stated fixed after texts) printed) (sym g)
settled_next t a before after texts now stack (Err e) h g = tt

-- a step at the target of a number, that looks at no cell
pub found_means : (env : Env) (n : ℕ) (f : Target → RuleTree) (t : Target) (texts : List Program) (now before : List Frame) (result : Result Next NoMemory)
    → node_of (slice_get texts env.text) n ≡ Some (node.Target t)
    → IfOk result (λ x. Means now x (f t) before)
    → IfOk result (λ x. (fixed : State) (cells : List Cell) → MeansIn (stated fixed cells texts) now x (on_target env n f) before)
found_means env n f t texts now before (Ok x) is h = λ fixed cells units printed.
    ap (λ (m : Option Node). runs units (bind (as_target f m) (rest (reverse before))) (stated fixed cells texts) printed) is
    ∙ ap (λ (u : RuleTree). runs units u (stated fixed cells texts) printed) (sym h)
found_means env n f t texts now before (Err e) is h = tt

-- ---- a target that is no tuple

pub placed_settled : (env : Env) (t : RuleTree) (before after : List Cell) (texts : List Program) (placed : Result (Option Place) OpEnd) (result : Result Assigning NoMemory)
    → ((fixed : State) → Placed env (stated fixed before texts) t (stated fixed after texts) placed)
    → IfOk result (λ a. (s s' : State) (t : RuleTree) → Placed env s t s' placed → GoesOnAs s t s' (settled a))
    → IfOk result (λ a. (fixed : State) → GoesOnAs (stated fixed before texts) t (stated fixed after texts) (settled a))
placed_settled env t before after texts placed (Ok a) h g = λ fixed. g (stated fixed before texts) (stated fixed after texts) t (h fixed)
placed_settled env t before after texts placed (Err e) h g = tt

-- this target
pub settled_as : (f : Target → RuleTree) (t form : Target) (before after : List Cell) (texts : List Program) (result : Result Assigning NoMemory)
    → t ≡ form
    → IfOk result (λ a. (fixed : State) → GoesOnAs (stated fixed before texts) (f form) (stated fixed after texts) (settled a))
    → IfOk result (λ a. (fixed : State) → GoesOnAs (stated fixed before texts) (f t) (stated fixed after texts) (settled a))
settled_as f t form before after texts result is h = subst (λ (x : Target). IfOk result (λ a. (fixed : State) → GoesOnAs (stated fixed before texts) (f x) (stated fixed after texts) (settled a))) (sym is) h

pub placed_as : (env : Env) (f : Target → RuleTree) (t form : Target) (before after : List Cell) (texts : List Program) (result : Result (Option Place) OpEnd)
    → t ≡ form
    → ((fixed : State) → Placed env (stated fixed before texts) (f form) (stated fixed after texts) result)
    → (fixed : State) → Placed env (stated fixed before texts) (f t) (stated fixed after texts) result
placed_as env f t form before after texts result is h = subst (λ (x : Target). (fixed : State) → Placed env (stated fixed before texts) (f x) (stated fixed after texts) result) (sym is) h

-- a list is asked for its items
pub list_unpacked : (env : Env) (v : Value) (targets copied : List ℕ) → copied ≡ targets
    → settled (assigning.Waits (waiting.Items env v copied)) ≡ goes_over AList v (counted (length targets) (assigns_each env targets))
list_unpacked env v targets copied is = ap (λ (ts : List ℕ). settled (assigning.Waits (waiting.Items env v ts))) is

-- by whether there are as many items
abbrev by_count : Bool → (List Value → RuleTree) → List Value → RuleTree
by_count b f items = elim b [ true ↦ f items | false ↦ fails exception.ValueError (codes "wrong number of values") ]

-- another number of items
pub wrong_count : (n : ℕ) (f : List Value → RuleTree) (values : List Value) (count : ℕ) (cells : List Cell) (texts : List Program) (result : Result Assigning NoMemory)
    → (count ≡ n → ⊥) → count ≡ length values
    → IfOk result (λ a. settled a ≡ fails exception.ValueError (codes "wrong number of values"))
    → IfOk result (λ a. (fixed : State) → GoesOnAs (stated fixed cells texts) (counted n f (reverse values)) (stated fixed cells texts) (settled a))
wrong_count n f values count cells texts (Ok a) differs is h = λ fixed k units printed.
    let other : (length (reverse values) == n) ≡ false = ne_eqb (length (reverse values)) n (λ e. differs (is ∙ sym (length-reverse values) ∙ e)) in
    ap (λ (b : Bool). runs units (bind (by_count b f (reverse values)) k) (stated fixed cells texts) printed) other
    ∙ ap (λ (t : RuleTree). runs units (bind t k) (stated fixed cells texts) printed) (sym h)
wrong_count n f values count cells texts (Err e) differs is h = tt
