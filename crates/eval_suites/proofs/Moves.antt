-- What is carried out at once is followed by what stands behind it.
use Rattle.std.proofs.Common.{◌≡◌, ◌+◌, ◌-◌, ◌≤◌, arith, ℕ, Bool, true, false, List, [], ◌∷◌, ◌++◌, reverse, Some, Result, Ok, Err, IfOk, sym, subst, ◌∙◌, ap}
use Rattle.std.proofs.lemmas.List.{reverse-append}
use Rattle.rp_base.specs.declared.ends.NoMemory.{NoMemory}
use Rattle.rp_base.specs.declared.value.Value.{Value}
use Rattle.py_ast.specs.declared.program.Program.{Program}
use Rattle.py_store.specs.Cells.{Cells}
use Rattle.py_store.specs.declared.cell.Cell.{Cell}
use Rattle.side_trees.proofs.BindLaw.{bind-bind}
use Rattle.side_trees.specs.Trees.{Return, bind}
use Rattle.language_rules.specs.Answers.{evaluated}
use Rattle.language_rules.specs.AtOnce.{stated}
use Rattle.language_rules.specs.Beginnings.{while_begins}
use Rattle.language_rules.specs.Codes.{Env, Gives, Returns, Step}
use Rattle.language_rules.specs.Going.{RuleTree, carry, done, evaluates, executes_all, on_value}
use Rattle.language_rules.specs.Loops.{next_turn}
use Rattle.language_rules.specs.Rules.{expand}
use Rattle.language_rules.specs.Running.{prints_behind, runs}
use Rattle.language_rules.specs.States.{State}
use Rattle.language_rules.specs.Statements.{return_rule}
use Rattle.language_rules.specs.Texts.{executes_suite}
use Rattle.language_rules.specs.Truth.{on_bool, on_truth, tells, truth_step}
use Rattle.eval_frames.specs.declared.frame.Frame.{Frame}
use Rattle.eval_frames.specs.declared.frame.Frame.TheVariants as frame
use Rattle.eval_frames.specs.declared.frame.StatementFrame.TheVariants as statement_frame
use Rattle.eval_frames.specs.declared.next.Next.{Next}
use Rattle.eval_frames.specs.declared.next.Next.TheVariants as next
use Rattle.eval_frames.proofs.Turns.{turns}
use Rattle.eval_frames.specs.Meaning.{Means, MeansIn, enters_over, meant, rest, resume}
use Rattle.eval_at_once.specs.declared.evaluating.Evaluated.{Evaluated}
use Rattle.eval_at_once.specs.Evaluated.{ComesTo, IsEvaluated}
use Rattle.eval_at_once.specs.Executed.{IsExecuted}
use Rattle.eval_suites.specs.declared.testing.Tested.{Tested}
use Rattle.eval_suites.specs.Within.{GoesOnAs, IsTested, MeansWithin, goes_round}
use Rattle.eval_suites.proofs.UnitsLeft.{comes_anyhow}

-- ---- units

-- what was spent so far, and what is spent more
spent_more : (start units left more : ℕ) → units ≤ start → left ≤ units → (start - left) + more ≡ (start - units) + ((units - left) + more)
spent_more start units left more h g = omega (arith, h, g)

none_spent : (units more : ℕ) → (units - units) + more ≡ more
none_spent units more = omega arith

-- ---- tests

truth_told : (v : Value) (holds : Bool) (f : Bool → RuleTree) → truth_step v ≡ tells holds → on_truth v f ≡ f holds
truth_told v holds f h = ap (λ (t : Step). bind (carry t) (on_bool f)) h

pub is_tested : (cells : List Cell) (texts : List Program) (env : Env) (test units : ℕ) (e : Evaluated) (t : Tested) → IsEvaluated cells texts (evaluated env test) units (Some e) → truth_step e.value ≡ tells t.holds → t.left ≡ e.left
    → IsTested cells texts env test units (Some t)
is_tested cells texts env test units e t h told left = (
  (λ fixed f k more printed.
      let s : State = stated fixed cells texts in
      ap (λ (n : ℕ). runs ((units - n) + more) (bind (evaluates env test (λ v. on_truth v f)) k) s printed) left
      ∙ comes_anyhow expand prints_behind units e.left more (evaluated env test) s s printed (Gives e.value) (λ x. bind (on_value (λ v. on_truth v f) x) k) (λ j. h.0 fixed j printed)
      ∙ ap (λ (u : RuleTree). runs more (bind u k) s printed) (truth_told e.value t.holds f told)),
  omega (arith, left, h.1),
)

-- ---- statements

-- nothing is carried out yet
pub none_yet : (texts : List Program) (cells : Cells) (t : RuleTree) (units : ℕ) → GoesOnAs texts cells t (units - units) cells t
none_yet texts cells t units = λ fixed k more printed. ap (λ (n : ℕ). runs n (bind t k) (stated fixed cells.cells texts) printed) (none_spent units more)

-- one statement more is carried out
pub one_more : (texts : List Program) (first before after : Cells) (t : RuleTree) (env : Env) (number : ℕ) (old new : List ℕ) (start units left : ℕ) → old ≡ new ++ number ∷ [] → units ≤ start
    → GoesOnAs texts first t (start - units) before (executes_all env (reverse old)) → IsExecuted before after texts (evaluated env number) units (Some left)
    → GoesOnAs texts first t (start - left) after (executes_all env (reverse new))
one_more texts first before after t env number old new start units left e less h x = λ fixed k more printed.
    ap (λ (n : ℕ). runs n (bind t k) (stated fixed first.cells texts) printed) (spent_more start units left more less (omega (arith, x.1)))
    ∙ h fixed k ((units - left) + more) printed
    ∙ ap (λ (ns : List ℕ). runs ((units - left) + more) (bind (executes_all env ns) k) (stated fixed before.cells texts) printed) (ap (λ (ns : List ℕ). reverse ns) e ∙ reverse-append new (number ∷ []))
    ∙ comes_anyhow expand prints_behind units left more (evaluated env number) (stated fixed before.cells texts) (stated fixed after.cells texts) printed done (λ a. bind (on_value (λ v. executes_all env (reverse new)) a) k) (λ j. x.0 fixed j printed)

-- all is carried out
pub all_done : (texts : List Program) (before after : Cells) (t : RuleTree) (env : Env) (old : List ℕ) (stack held : List Frame) (spent : ℕ) → old ≡ [] → held ≡ stack
    → GoesOnAs texts before t spent after (executes_all env (reverse old)) → MeansWithin texts before t stack spent after (next.Give done) held
all_done texts before after t env old stack held spent none same h = λ fixed more printed.
    h fixed (rest (reverse stack)) more printed
    ∙ ap (λ (ns : List ℕ). runs more (bind (executes_all env (reverse ns)) (rest (reverse stack))) (stated fixed after.cells texts) printed) none
    ∙ ap (λ (fs : List Frame). runs more (rest (reverse fs) done) (stated fixed after.cells texts) printed) (sym same)

-- the rest goes on by frames, over the same cells and the same stack
pub by_frames : (texts : List Program) (before after kept : Cells) (t : RuleTree) (env : Env) (number : ℕ) (old new : List ℕ) (stack held now : List Frame) (spent : ℕ) (r : Result Next NoMemory) → old ≡ new ++ number ∷ [] → kept ≡ after → held ≡ stack
    → GoesOnAs texts before t spent after (executes_all env (reverse old)) → IfOk r (λ n. Means now n (executes_all env (number ∷ reverse new)) held)
    → IfOk r (λ n. MeansWithin texts before t stack spent kept n now)
by_frames texts before after kept t env number old new stack held now spent (Ok n) e same over h means =
    let there : Means now n (executes_all env (number ∷ reverse new)) stack = subst (λ (fs : List Frame). Means now n (executes_all env (number ∷ reverse new)) fs) over means in
    subst (λ (c : Cells). MeansWithin texts before t stack spent c n now) (sym same) (λ fixed more printed.
    h fixed (rest (reverse stack)) more printed
    ∙ ap (λ (ns : List ℕ). runs more (bind (executes_all env ns) (rest (reverse stack))) (stated fixed after.cells texts) printed) (ap (λ (ns : List ℕ). reverse ns) e ∙ reverse-append new (number ∷ []))
    ∙ ap (λ (u : RuleTree). runs more u (stated fixed after.cells texts) printed) (sym there))
by_frames texts before after kept t env number old new stack held now spent (Err e) p same over h means = tt

-- ---- behind a test

-- what stands behind a test that has this truth
pub behind_test : (texts : List Program) (before after : Cells) (t : RuleTree) (f : Bool → RuleTree) (stack now : List Frame) (units left : ℕ) (tested : Tested) (r : Result Next NoMemory) → tested.left + 1 ≤ units → left ≤ tested.left
    → ((fixed : State) (more : ℕ) (printed : List ℕ) → runs ((units - tested.left) + more) (bind t (rest (reverse stack))) (stated fixed before.cells texts) printed ≡ runs more (bind (f tested.holds) (rest (reverse stack))) (stated fixed before.cells texts) printed)
    → IfOk r (λ n. MeansWithin texts before (f tested.holds) stack (tested.left - left) after n now) → IfOk r (λ n. MeansWithin texts before t stack (units - left) after n now)
behind_test texts before after t f stack now units left tested (Ok n) less more_less goes h = λ fixed more printed.
    ap (λ (m : ℕ). runs m (bind t (rest (reverse stack))) (stated fixed before.cells texts) printed) (spent_more units tested.left left more (omega (arith, less)) more_less)
    ∙ goes fixed ((tested.left - left) + more) printed ∙ h fixed more printed
behind_test texts before after t f stack now units left tested (Err e) less more_less goes h = tt

-- what goes on by frames, with nothing spent
pub in_frames : (texts : List Program) (cells : Cells) (t : RuleTree) (stack now : List Frame) (units : ℕ) (r : Result Next NoMemory)
    → IfOk r (λ n. (fixed : State) → MeansIn (stated fixed cells.cells texts) now n t stack) → IfOk r (λ n. MeansWithin texts cells t stack (units - units) cells n now)
in_frames texts cells t stack now units (Ok n) h = λ fixed more printed.
    ap (λ (m : ℕ). runs m (bind t (rest (reverse stack))) (stated fixed cells.cells texts) printed) (none_spent units more) ∙ h fixed more printed
in_frames texts cells t stack now units (Err e) h = tt

pub in_frames_everywhere : (texts : List Program) (cells : Cells) (t : RuleTree) (stack now : List Frame) (units : ℕ) (r : Result Next NoMemory)
    → IfOk r (λ n. Means now n t stack) → IfOk r (λ n. MeansWithin texts cells t stack (units - units) cells n now)
in_frames_everywhere texts cells t stack now units (Ok n) h = λ fixed more printed.
    ap (λ (m : ℕ). runs m (bind t (rest (reverse stack))) (stated fixed cells.cells texts) printed) (none_spent units more) ∙ ap (λ (u : RuleTree). runs more u (stated fixed cells.cells texts) printed) (sym h)
in_frames_everywhere texts cells t stack now units (Err e) h = tt

-- what follows at once, with nothing spent
pub at_once : (texts : List Program) (cells : Cells) (t : RuleTree) (stack now : List Frame) (n : Next) (units : ℕ) → Means now n t stack → MeansWithin texts cells t stack (units - units) cells n now
at_once texts cells t stack now n units h = λ fixed more printed.
    ap (λ (m : ℕ). runs m (bind t (rest (reverse stack))) (stated fixed cells.cells texts) printed) (none_spent units more) ∙ ap (λ (u : RuleTree). runs more u (stated fixed cells.cells texts) printed) (sym h)

-- ---- over a frame that was pushed

pub over_frame : (texts : List Program) (before after : Cells) (t : RuleTree) (f : Frame) (stack over now : List Frame) (spent : ℕ) (r : Result Next NoMemory) → over ≡ stack ++ f ∷ []
    → IfOk r (λ n. MeansWithin texts before t over spent after n now) → IfOk r (λ n. MeansWithin texts before (bind t (resume f)) stack spent after n now)
over_frame texts before after t f stack over now spent (Ok n) e h = λ fixed more printed.
    ap (λ (u : RuleTree). runs (spent + more) u (stated fixed before.cells texts) printed)
    (bind-bind t (resume f) (rest (reverse stack)) ∙ ap (λ (fs : List Frame). bind t (rest fs)) (sym (ap (λ (fs : List Frame). reverse fs) e ∙ reverse-append stack (f ∷ []))))
    ∙ h fixed more printed
over_frame texts before after t f stack over now spent (Err x) e h = tt

-- ---- `return`

pub returned : (texts : List Program) (cells : Cells) (env : Env) (value : ℕ) (stack : List Frame) (units left : ℕ) (v : Value) → ((fixed : State) → ComesTo (evaluated env value) (stated fixed cells.cells texts) units (Gives v) (stated fixed cells.cells texts) left)
    → MeansWithin texts cells (return_rule env (Some value)) stack (units - left) cells (next.Give (Returns v)) stack
returned texts cells env value stack units left v h = λ fixed more printed.
    let s : State = stated fixed cells.cells texts in
    comes_anyhow expand prints_behind units left more (evaluated env value) s s printed (Gives v) (λ x. bind (on_value (λ w. Return (Returns w)) x) (rest (reverse stack))) (λ j. h fixed j printed)

pub return_asked : (texts : List Program) (cells : Cells) (env : Env) (value : ℕ) (stack now : List Frame) (units : ℕ) (r : Result Next NoMemory) → IfOk r (λ n. meant now n ≡ enters_over env value (frame.Statement statement_frame.Return) stack)
    → IfOk r (λ n. MeansWithin texts cells (return_rule env (Some value)) stack (units - units) cells n now)
return_asked texts cells env value stack now units (Ok n) h = λ fixed more printed.
    ap (λ (m : ℕ). runs m (bind (return_rule env (Some value)) (rest (reverse stack))) (stated fixed cells.cells texts) printed) (none_spent units more) ∙ ap (λ (t : RuleTree). runs more t (stated fixed cells.cells texts) printed) (sym h)
return_asked texts cells env value stack now units (Err e) h = tt

-- ---- `while`

-- a turn whose test has this truth
pub turn_tested : (texts : List Program) (cells : Cells) (env : Env) (test body units : ℕ) (stack : List Frame) (tested : Tested) → IsTested cells.cells texts env test units (Some tested)
    → (fixed : State) (more : ℕ) (printed : List ℕ) → runs ((units - tested.left) + more) (bind (while_begins env test body) (rest (reverse stack))) (stated fixed cells.cells texts) printed ≡ runs more (bind (goes_round env test body tested.holds) (rest (reverse stack))) (stated fixed cells.cells texts) printed
turn_tested texts cells env test body units stack tested h fixed more printed =
    turns (stated fixed cells.cells texts) env test body (rest (reverse stack)) ((units - tested.left) + more) printed ∙ h.0 fixed (goes_round env test body) (rest (reverse stack)) more printed

pub round : (texts : List Program) (before after : Cells) (env : Env) (test body : ℕ) (holds : Bool) (stack now : List Frame) (spent : ℕ) (r : Result Next NoMemory) → holds ≡ true
    → IfOk r (λ n. MeansWithin texts before (bind (executes_suite env body) (next_turn (while_begins env test body))) stack spent after n now)
    → IfOk r (λ n. MeansWithin texts before (goes_round env test body holds) stack spent after n now)
round texts before after env test body true stack now spent r e h = h
round texts before after env test body false stack now spent r e h = cc
