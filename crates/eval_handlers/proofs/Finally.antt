-- The suite of a `try` over what waits for its end.
use Rattle.std.proofs.Common.{◌≡◌, ℕ, Bool, true, false, List, reverse, Option, Some, None, Result, Ok, Err, IfOk, refl, sym, ◌∙◌, ap}
use Rattle.rp_base.specs.declared.ends.NoMemory.{NoMemory}
use Rattle.rp_base.specs.declared.exceptions.Raised.{Raised}
use Rattle.py_ast.specs.declared.program.Program.{Program}
use Rattle.py_store.specs.declared.cell.Cell.{Cell}
use Rattle.side_trees.proofs.BindLaw.{bind-return}
use Rattle.side_trees.specs.Trees.{bind}
use Rattle.language_rules.specs.AtOnce.{stated}
use Rattle.language_rules.specs.Codes.{Completion, Env, Gives, Raises, Returns, Breaks, Continues, Drained}
use Rattle.language_rules.specs.Going.{RuleTree, done}
use Rattle.language_rules.specs.Raising.{finally_rule, finally_suite, replaces}
use Rattle.language_rules.specs.Running.{runs}
use Rattle.language_rules.specs.States.{Handling, State}
use Rattle.language_rules.specs.Texts.{executes_suite}
use Rattle.eval_frames.specs.declared.frame.Frame.{Frame}
use Rattle.eval_frames.specs.declared.next.Next.{Next}
use Rattle.eval_frames.specs.Meaning.{Means, MeansIn, MeansOver, handling_in, rest}
use Rattle.eval_handlers.specs.Entering.{reading}

pub with_finally : (t : RuleTree) (env : Env) (last : Option ℕ) (suite : ℕ) (now before : List Frame) (r : Result Next NoMemory)
    → last ≡ Some suite → IfOk r (λ n. Means now n (bind t (finally_rule env (Some suite))) before) → IfOk r (λ n. Means now n (bind t (finally_rule env last)) before)
with_finally t env last suite now before (Ok n) is h = h ∙ ap (λ (o : Option ℕ). bind (bind t (finally_rule env o)) (rest (reverse before))) (sym is)
with_finally t env last suite now before (Err e) is h = h

pub without_finally : (t : RuleTree) (env : Env) (last : Option ℕ) (now before : List Frame) (r : Result Next NoMemory)
    → last ≡ None → IfOk r (λ n. Means now n t before) → IfOk r (λ n. Means now n (bind t (finally_rule env last)) before)
without_finally t env last now before (Ok n) is h =
    h
    ∙ ap (λ (x : RuleTree). bind x (rest (reverse before))) (sym (bind-return t))
    ∙ ap (λ (o : Option ℕ). bind (bind t (finally_rule env o)) (rest (reverse before))) (sym is)
without_finally t env last now before (Err e) is h = h

-- a `try` whose suite ended by itself
pub finally_done : (env : Env) (last : Option ℕ) (suite : ℕ) (texts : List Program) (now before : List Frame) (r : Result Next NoMemory)
    → last ≡ Some suite
    → IfOk r (λ n. (s : State) → MeansIn (reading s texts) now n (bind (executes_suite env suite) (replaces done)) before)
    → IfOk r (λ n. (fixed : State) (cells : List Cell) → MeansIn (stated fixed cells texts) now n (finally_rule env last done) before)
finally_done env last suite texts now before (Ok n) is h = λ fixed cells units printed.
    ap (λ (o : Option ℕ). runs units (bind (finally_rule env o done) (rest (reverse before))) (stated fixed cells texts) printed) is ∙ h (record fixed { cells = cells }) units printed
finally_done env last suite texts now before (Err e) is h = h

abbrev pub is_raise : Completion → Bool
is_raise (Raises r) = true
is_raise _ = false

-- an end that is no exception waits for the suite of `finally`
pending : (env : Env) (suite : ℕ) (a : Completion) → is_raise a ≡ false → bind (executes_suite env suite) (replaces a) ≡ finally_suite env suite a
pending env suite (Gives v) h = refl
pending env suite (Raises r) h = cc
pending env suite (Returns v) h = refl
pending env suite Breaks h = refl
pending env suite Continues h = refl
pending env suite (Drained vs) h = refl

no_raise : (a : Completion) → ((r : Raised) → a ≡ Raises r → ⊥) → is_raise a ≡ false
no_raise (Gives v) h = refl
no_raise (Raises r) h = absurd (h r refl)
no_raise (Returns v) h = refl
no_raise Breaks h = refl
no_raise Continues h = refl
no_raise (Drained vs) h = refl

pub finally_pending : (env : Env) (suite : ℕ) (a other : Completion) (texts : List Program) (handled : List Handling) (now before : List Frame) (r : Result Next NoMemory)
    → ((x : Raised) → a ≡ Raises x → ⊥) → a ≡ other
    → IfOk r (λ n. (s : State) → MeansIn (reading s texts) now n (bind (executes_suite env suite) (replaces other)) before)
    → IfOk r (λ n. (fixed : State) → MeansOver (handling_in fixed texts handled) (handling_in fixed texts handled) now n (finally_suite env suite a) before)
finally_pending env suite a other texts handled now before (Ok n) never same h = λ fixed units printed.
    ap (λ (t : RuleTree). runs units (bind t (rest (reverse before))) (handling_in fixed texts handled) printed) (sym (pending env suite a (no_raise a never)))
    ∙ ap (λ (x : Completion). runs units (bind (bind (executes_suite env suite) (replaces x)) (rest (reverse before))) (handling_in fixed texts handled) printed) same
    ∙ h (record fixed { handled = reverse handled }) units printed
finally_pending env suite a other texts handled now before (Err e) never same h = h
