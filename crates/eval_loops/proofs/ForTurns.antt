-- The turns of a `for` on a stack.
use Rattle.std.proofs.Common.{◌≡◌, ℕ, List, [], ◌∷◌, ◌++◌, reverse, slice_get, Option, Some, Result, Ok, Err, IfOk, sym, ◌∙◌, ap, subst}
use Rattle.std.proofs.lemmas.List.{reverse-append}
use mathlib.Core.Path.{fun_ext}
use Rattle.rp_base.specs.declared.ends.NoMemory.{NoMemory}
use Rattle.rp_base.specs.declared.exceptions.Raised.{Raised}
use Rattle.rp_base.specs.declared.value.Value.{Value}
use Rattle.py_ast.specs.declared.node.Node.{Node as AstNode}
use Rattle.py_ast.specs.declared.node.Node.TheVariants as node
use Rattle.py_ast.specs.declared.program.Program.{Program}
use Rattle.py_ast.specs.declared.statement.Statement.TheVariants as statement
use Rattle.py_store.specs.declared.cell.Cell.{Cell}
use Rattle.object_operations.specs.declared.operation.Operation.{Operation}
use Rattle.object_operations.specs.declared.operation.Operation.TheVariants as operation
use Rattle.object_operations.specs.declared.special.Special.TheVariants as special
use Rattle.side_trees.proofs.BindLaw.{bind-bind}
use Rattle.side_trees.specs.Trees.{Spend, bind}
use Rattle.language_rules.specs.AtOnce.{stated}
use Rattle.language_rules.specs.Beginnings.{asks_next}
use Rattle.language_rules.specs.Codes.{Completion, Env, ForNext, Gives, Node, Raises}
use Rattle.language_rules.specs.Going.{RuleTree, executes_all}
use Rattle.language_rules.specs.Loops.{for_rule}
use Rattle.language_rules.specs.Running.{runs}
use Rattle.language_rules.specs.States.{State}
use Rattle.language_rules.specs.Texts.{as_statement, as_suite, executes_suite, node_of}
use Rattle.eval_frames.proofs.Operating.{code_waits}
use Rattle.eval_frames.specs.declared.frame.Frame.{Frame}
use Rattle.eval_frames.specs.declared.frame.Frame.TheVariants as frame
use Rattle.eval_frames.specs.declared.frame.StatementFrame.TheVariants as statement_frame
use Rattle.eval_frames.specs.declared.loop_frames.ForFrame.{ForFrame}
use Rattle.eval_frames.specs.declared.loop_frames.ForFrame.TheVariants as for_frame
use Rattle.eval_frames.specs.declared.next.Next.{Next}
use Rattle.eval_frames.specs.declared.next.Next.TheVariants as next
use Rattle.eval_frames.specs.LoopFrames.{through_for}
use Rattle.eval_frames.specs.Meaning.{Means, MeansIn, MeansOver, operates_over, rest, resume}
use Rattle.eval_targets.proofs.Settling.{behind}
use Rattle.eval_targets.specs.declared.settled.Assigning.{Assigning}
use Rattle.eval_targets.specs.declared.settled.Waiting.{Waiting}
use Rattle.eval_targets.specs.Settled.{GoesOnAs, awaited, settled}

-- ---- the next item

-- a question for the next item over its frame is a turn that begins
pub next_asked : (env : Env) (target body : ℕ) (iterator copied : Value) (o : Operation) (now before : List Frame) (result : Result Next NoMemory)
    → copied ≡ iterator → o ≡ operation.Special copied special.Next []
    → IfOk result (λ n. Means now n (operates_over o (frame.For (for_frame.Item env target body iterator))) before)
    → IfOk result (λ n. (s : State) → MeansIn s now n (asks_next env target body iterator) before)
next_asked env target body iterator copied o now before (Ok n) is-copied is-o h = λ s units printed.
    code_waits s (operation.Special iterator special.Next []) (λ a. ForNext env target body iterator a) (rest (reverse before)) units printed
    ∙ ap (λ (p : Operation). runs units (bind (operates_over p (frame.For (for_frame.Item env target body iterator))) (rest (reverse before))) s printed) (sym (is-o ∙ ap (λ (v : Value). operation.Special v special.Next []) is-copied))
    ∙ ap (λ (u : RuleTree). runs units u s printed) (sym h)
next_asked env target body iterator copied o now before (Err e) is-copied is-o h = tt

-- a question for the iterator over its frame
pub source_asked : (env : Env) (target body : ℕ) (a : Completion) (source : Value) (o : Operation) (now before : List Frame) (result : Result Next NoMemory)
    → a ≡ Gives source → o ≡ operation.Special source special.Iter []
    → IfOk result (λ n. Means now n (operates_over o (frame.For (for_frame.Iterator env target body))) before)
    → IfOk result (λ n. Means now n (through_for (for_frame.Source env target body) a) before)
source_asked env target body a source o now before (Ok n) is is-o h =
    h
    ∙ ap (λ (p : Operation). bind (operates_over p (frame.For (for_frame.Iterator env target body))) (rest (reverse before))) is-o
    ∙ ap (λ (b : Completion). bind (through_for (for_frame.Source env target body) b) (rest (reverse before))) (sym is)
source_asked env target body a source o now before (Err e) is is-o h = tt

-- ---- an item

-- the item goes to the target, and then the loop goes on
pub item_taken : (t : RuleTree) (f : Completion → RuleTree) (a : Assigning) (before after : List Cell) (texts : List Program) (now stack : List Frame) (result : Result Next NoMemory)
    → ((fixed : State) → GoesOnAs (stated fixed before texts) t (stated fixed after texts) (settled a))
    → IfOk result (λ n. (fixed : State) (cells : List Cell) → MeansIn (stated fixed cells texts) now n (bind (settled a) f) stack)
    → IfOk result (λ n. (fixed : State) → MeansOver (stated fixed before texts) (stated fixed after texts) now n (bind t f) stack)
item_taken t f a before after texts now stack (Ok n) h g = λ fixed units printed.
    behind (stated fixed before texts) (stated fixed after texts) t (settled a) f (h fixed) (rest (reverse stack)) units printed
    ∙ g fixed after units printed
item_taken t f a before after texts now stack (Err e) h g = tt

-- what the assignment waits for begins over a frame that was pushed
pub waits_below : (t : RuleTree) (f : ForFrame) (now before over : List Frame) (result : Result Next NoMemory) → over ≡ before ++ frame.For f ∷ []
    → IfOk result (λ n. Means now n t over) → IfOk result (λ n. Means now n (bind t (through_for f)) before)
waits_below t f now before over (Ok n) p h =
    h
    ∙ ap (λ (fs : List Frame). bind t (rest (reverse fs))) p
    ∙ ap (λ (fs : List Frame). bind t (rest fs)) (reverse-append before (frame.For f ∷ []))
    ∙ sym (bind-bind t (through_for f) (rest (reverse before)))
waits_below t f now before over (Err e) p h = tt

-- what is waited for
pub waits_so : (w form : Waiting) (f : ForFrame) (now before : List Frame) (result : Result Next NoMemory) → w ≡ form
    → IfOk result (λ n. Means now n (bind (awaited form) (through_for f)) before) → IfOk result (λ n. Means now n (bind (awaited w) (through_for f)) before)
waits_so w form f now before result is h = subst (λ (x : Waiting). IfOk result (λ n. Means now n (bind (awaited x) (through_for f)) before)) (sym is) h

-- the question for the next item raised an exception
pub items_ended : (env : Env) (target body : ℕ) (iterator : Value) (a : Completion) (r : Raised) (n : Next) (cells : List Cell) (texts : List Program) (stack : List Frame)
    → a ≡ Raises r → ((env : Env) (target body : ℕ) (iterator : Value) (stack : List Frame) → Means stack n (for_rule env target body iterator (Raises r)) stack)
    → (fixed : State) → MeansOver (stated fixed cells texts) (stated fixed cells texts) stack n (for_rule env target body iterator a) stack
items_ended env target body iterator a r n cells texts stack is h fixed units printed =
    ap (λ (b : Completion). runs units (bind (for_rule env target body iterator b) (rest (reverse stack))) (stated fixed cells texts) printed) is
    ∙ ap (λ (t : RuleTree). runs units t (stated fixed cells texts) printed) (sym (h env target body iterator stack))

-- ---- the suite

-- the statements of a suite
pub suite_begun : (env : Env) (n : ℕ) (statements waiting : List ℕ) (f : Completion → RuleTree) (texts : List Program) (now before : List Frame) (result : Result Next NoMemory)
    → node_of (slice_get texts env.text) n ≡ Some (node.Statement (statement.Suite statements)) → reverse waiting ≡ statements
    → IfOk result (λ m. (s : State) → MeansIn s now m (bind (executes_all env (reverse waiting)) f) before)
    → IfOk result (λ m. (fixed : State) (cells : List Cell) → MeansIn (stated fixed cells texts) now m (bind (executes_suite env n) f) before)
suite_begun env n statements waiting f texts now before (Ok m) is is-w h = λ fixed cells units printed.
    ap (λ (o : Option AstNode). runs units (bind (bind (as_statement (as_suite (executes_all env)) o) f) (rest (reverse before))) (stated fixed cells texts) printed) is
    ∙ ap (λ (ns : List ℕ). runs units (bind (bind (executes_all env ns) f) (rest (reverse before))) (stated fixed cells texts) printed) (sym is-w)
    ∙ h (stated fixed cells texts) units printed
suite_begun env n statements waiting f texts now before (Err e) is is-w h = tt

-- what waits over a frame of a loop
waits-over : (w : Frame) (f : Frame) (fs : List Frame) (env : Env) (n : ℕ)
    → Spend (Node env n) (rest (f ∷ w ∷ fs)) ≡ Spend (Node env n) (λ a. bind (bind (resume f a) (resume w)) (rest fs))
waits-over w f fs env n = ap (λ (k : Completion → RuleTree). Spend (Node env n) k) (fun_ext (λ a. sym (bind-bind (resume f a) (resume w) (rest fs))))

two-last : (stack : List Frame) (w f : Frame) → reverse ((stack ++ w ∷ []) ++ f ∷ []) ≡ f ∷ w ∷ reverse stack
two-last stack w f = reverse-append (stack ++ w ∷ []) (f ∷ []) ∙ ap (λ (fs : List Frame). f ∷ fs) (reverse-append stack (w ∷ []))

pub turn_entered : (w : ForFrame) (env : Env) (n : ℕ) (waiting : List ℕ) (stack between now : List Frame)
    → between ≡ stack ++ frame.For w ∷ []
    → now ≡ between ++ frame.Statement (statement_frame.Suite env waiting) ∷ []
    → Means now (next.Enter env n) (bind (executes_all env (n ∷ reverse waiting)) (through_for w)) stack
turn_entered w env n waiting stack between now h g =
    ap (λ (fs : List Frame). Spend (Node env n) (rest (reverse fs))) (g ∙ ap (λ (fs : List Frame). fs ++ frame.Statement (statement_frame.Suite env waiting) ∷ []) h)
    ∙ ap (λ (fs : List Frame). Spend (Node env n) (rest fs)) (two-last stack (frame.For w) (frame.Statement (statement_frame.Suite env waiting)))
    ∙ waits-over (frame.For w) (frame.Statement (statement_frame.Suite env waiting)) (reverse stack) env n
