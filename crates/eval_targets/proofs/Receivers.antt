-- Receivers that are evaluated first, and values that go to attributes and items.
use Rattle.std.proofs.Common.{◌≡◌, ℕ, ◌∷◌, [], ◌++◌, List, Result, Ok, Err, IfOk, reverse, refl, sym, ◌∙◌, ap, subst}
use Rattle.std.proofs.lemmas.List.{reverse-append}
use mathlib.Core.Path.{fun_ext}
use Rattle.rp_base.specs.declared.ends.NoMemory.{NoMemory}
use Rattle.rp_base.specs.declared.operators.BinaryOp.{BinaryOp}
use Rattle.rp_base.specs.declared.value.Value.{Value}
use Rattle.py_ast.specs.declared.program.Program.{Program}
use Rattle.py_ast.specs.declared.target.Target.{Target}
use Rattle.py_ast.specs.declared.target.Target.TheVariants as target
use Rattle.py_store.specs.declared.cell.Cell.{Cell}
use Rattle.object_operations.specs.declared.operation.Operation.{Operation}
use Rattle.side_trees.proofs.BindLaw.{bind-bind}
use Rattle.side_trees.specs.Trees.{Spend, bind}
use Rattle.language_rules.specs.AtOnce.{stated}
use Rattle.language_rules.specs.Codes.{Completion, Env, Node}
use Rattle.language_rules.specs.Going.{RuleTree}
use Rattle.language_rules.specs.Running.{runs}
use Rattle.language_rules.specs.States.{State}
use Rattle.language_rules.specs.Targets.{augments_target, deletes_target}
use Rattle.eval_frames.specs.declared.frame.Frame.{Frame}
use Rattle.eval_frames.specs.declared.frame.Frame.TheVariants as frame
use Rattle.eval_frames.specs.declared.next.Next.{Next}
use Rattle.eval_frames.specs.declared.next.Next.TheVariants as next
use Rattle.eval_frames.specs.declared.target_frame.Destination.{Destination}
use Rattle.eval_frames.specs.declared.target_frame.Destination.TheVariants as destination
use Rattle.eval_frames.specs.declared.target_frame.TargetFrame.{TargetFrame}
use Rattle.eval_frames.specs.declared.target_frame.TargetFrame.TheVariants as target_frame
use Rattle.eval_frames.specs.Meaning.{Means, MeansIn, enters_over, meant, operates_over, rest, resume}
use Rattle.eval_frames.specs.TargetFrames.{stores}
use Rattle.eval_targets.specs.declared.settled.Waiting.{Waiting}
use Rattle.eval_targets.specs.declared.settled.Waiting.TheVariants as waiting
use Rattle.eval_targets.specs.Settled.{awaited, storing}

-- ---- a receiver begins

pub receiver_entered : (env : Env) (n : ℕ) (f : TargetFrame) (before now : List Frame) → now ≡ before ++ frame.Target f ∷ []
    → Means now (next.Enter env n) (awaited (waiting.Receiver env n f)) before
receiver_entered env n f before now p =
    ap (λ (fs : List Frame). Spend (Node env n) (rest (reverse fs))) p
    ∙ ap (λ (fs : List Frame). Spend (Node env n) (rest fs)) (reverse-append before (frame.Target f ∷ []))

-- what waits over another frame
waits-over : (w : Frame) (f : Frame) (fs : List Frame) (env : Env) (n : ℕ)
    → Spend (Node env n) (rest (f ∷ w ∷ fs)) ≡ Spend (Node env n) (λ a. bind (bind (resume f a) (resume w)) (rest fs))
waits-over w f fs env n = ap (λ (k : Completion → RuleTree). Spend (Node env n) k) (fun_ext (λ a. sym (bind-bind (resume f a) (resume w) (rest fs))))

two-last : (stack : List Frame) (w f : Frame) → reverse ((stack ++ w ∷ []) ++ f ∷ []) ≡ f ∷ w ∷ reverse stack
two-last stack w f = reverse-append (stack ++ w ∷ []) (f ∷ []) ∙ ap (λ (fs : List Frame). f ∷ fs) (reverse-append stack (w ∷ []))

pub receiver_of_each_entered : (env : Env) (n : ℕ) (f : TargetFrame) (targets : List ℕ) (values : List Value) (before between now : List Frame)
    → between ≡ before ++ frame.Target (target_frame.Each env targets values) ∷ []
    → now ≡ between ++ frame.Target f ∷ []
    → Means now (next.Enter env n) (awaited (waiting.ReceiverOfEach env n f targets values)) before
receiver_of_each_entered env n f targets values before between now h g =
    ap (λ (fs : List Frame). Spend (Node env n) (rest (reverse fs))) (g ∙ ap (λ (fs : List Frame). fs ++ frame.Target f ∷ []) h)
    ∙ ap (λ (fs : List Frame). Spend (Node env n) (rest fs)) (two-last before (frame.Target (target_frame.Each env targets values)) (frame.Target f))
    ∙ waits-over (frame.Target (target_frame.Each env targets values)) (frame.Target f) (reverse before) env n

-- what is waited for
pub waits_so : (w form : Waiting) (now before : List Frame) (result : Result Next NoMemory) → w ≡ form → IfOk result (λ n. Means now n (awaited form) before) → IfOk result (λ n. Means now n (awaited w) before)
waits_so w form now before result is h = subst (λ (x : Waiting). IfOk result (λ n. Means now n (awaited x) before)) (sym is) h

-- ---- `del`

pub attribute_deleted : (env : Env) (t : Target) (r : ℕ) (name copied : List ℕ) (now before : List Frame) (result : Result Next NoMemory)
    → t ≡ target.Attribute r name → copied ≡ name
    → IfOk result (λ n. meant now n ≡ enters_over env r (frame.Target (target_frame.DeletedReceiver copied)) before)
    → IfOk result (λ n. Means now n (deletes_target env t) before)
attribute_deleted env t r name copied now before (Ok n) is-t is h =
    h
    ∙ ap (λ (x : List ℕ). enters_over env r (frame.Target (target_frame.DeletedReceiver x)) before) is
    ∙ ap (λ (x : Target). bind (deletes_target env x) (rest (reverse before))) (sym is-t)
attribute_deleted env t r name copied now before (Err e) is-t is h = tt

pub item_deleted : (env : Env) (t : Target) (r key : ℕ) (now before : List Frame) (result : Result Next NoMemory)
    → t ≡ target.Item r key
    → IfOk result (λ n. meant now n ≡ enters_over env r (frame.Target (target_frame.DeletedItemReceiver env key)) before)
    → IfOk result (λ n. Means now n (deletes_target env t) before)
item_deleted env t r key now before (Ok n) is-t h = h ∙ ap (λ (x : Target). bind (deletes_target env x) (rest (reverse before))) (sym is-t)
item_deleted env t r key now before (Err e) is-t h = tt

-- ---- augmented assignment

pub attribute_augmented : (env : Env) (o : BinaryOp) (right : ℕ) (t : Target) (r : ℕ) (name copied : List ℕ) (cells : List Cell) (texts : List Program) (now before : List Frame) (result : Result Next NoMemory)
    → t ≡ target.Attribute r name → copied ≡ name
    → IfOk result (λ n. meant now n ≡ enters_over env r (frame.Target (target_frame.AugmentedReceiver env o right copied)) before)
    → IfOk result (λ n. (fixed : State) → MeansIn (stated fixed cells texts) now n (augments_target env o right t) before)
attribute_augmented env o right t r name copied cells texts now before (Ok n) is-t is h = λ fixed units printed.
    ap (λ (x : Target). runs units (bind (augments_target env o right x) (rest (reverse before))) (stated fixed cells texts) printed) is-t
    ∙ ap (λ (x : List ℕ). runs units (enters_over env r (frame.Target (target_frame.AugmentedReceiver env o right x)) before) (stated fixed cells texts) printed) (sym is)
    ∙ ap (λ (u : RuleTree). runs units u (stated fixed cells texts) printed) (sym h)
attribute_augmented env o right t r name copied cells texts now before (Err e) is-t is h = tt

pub item_augmented : (env : Env) (o : BinaryOp) (right : ℕ) (t : Target) (r key : ℕ) (cells : List Cell) (texts : List Program) (now before : List Frame) (result : Result Next NoMemory)
    → t ≡ target.Item r key
    → IfOk result (λ n. meant now n ≡ enters_over env r (frame.Target (target_frame.AugmentedItemReceiver env o right key)) before)
    → IfOk result (λ n. (fixed : State) → MeansIn (stated fixed cells texts) now n (augments_target env o right t) before)
item_augmented env o right t r key cells texts now before (Ok n) is-t h = λ fixed units printed.
    ap (λ (x : Target). runs units (bind (augments_target env o right x) (rest (reverse before))) (stated fixed cells texts) printed) is-t
    ∙ ap (λ (u : RuleTree). runs units u (stated fixed cells texts) printed) (sym h)
item_augmented env o right t r key cells texts now before (Err e) is-t h = tt

-- ---- a value that is stored

stored_over : (d : Destination) (v : Value) → operates_over (storing d v) (frame.Target target_frame.Done) ≡ stores d v
stored_over (destination.Attribute receiver name) v = refl
stored_over (destination.Item receiver key) v = refl

pub value_stored : (d : Destination) (v : Value) (o : Operation) (now before : List Frame) (result : Result Next NoMemory) → o ≡ storing d v
    → IfOk result (λ n. Means now n (operates_over o (frame.Target target_frame.Done)) before)
    → IfOk result (λ n. Means now n (stores d v) before)
value_stored d v o now before (Ok n) is h =
    h
    ∙ ap (λ (p : Operation). bind (operates_over p (frame.Target target_frame.Done)) (rest (reverse before))) is
    ∙ ap (λ (t : RuleTree). bind t (rest (reverse before))) (stored_over d v)
value_stored d v o now before (Err e) is h = tt
