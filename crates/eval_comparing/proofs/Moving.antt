-- A step that means a computation, taken to another one, or to a state.
use Rattle.std.proofs.Common.{◌≡◌, List, [], ◌∷◌, ◌++◌, reverse, Result, Ok, Err, IfOk, sym, ◌∙◌, ap, subst}
use Rattle.std.proofs.lemmas.List.{reverse-append}
use Rattle.rp_base.specs.declared.ends.NoMemory.{NoMemory}
use Rattle.py_store.specs.declared.cell.Cell.{Cell}
use Rattle.side_trees.proofs.BindLaw.{bind-bind}
use Rattle.side_trees.specs.Trees.{bind}
use Rattle.language_rules.specs.AtOnce.{stated}
use Rattle.language_rules.specs.Going.{RuleTree}
use Rattle.language_rules.specs.Running.{runs}
use Rattle.language_rules.specs.States.{State}
use Rattle.eval_frames.specs.declared.frame.Frame.{Frame}
use Rattle.eval_frames.specs.declared.next.Next.{Next}
use Rattle.eval_frames.specs.Meaning.{Means, MeansIn, rest, resume}
use Rattle.eval_comparing.specs.Steps.{MeansAnywhere, MeansAt}

-- ---- another computation

pub means_as : (r : Result Next NoMemory) (now before : List Frame) (t u : RuleTree) → t ≡ u → IfOk r (λ n. Means now n t before) → IfOk r (λ n. Means now n u before)
means_as r now before t u e h = subst (λ (x : RuleTree). IfOk r (λ n. Means now n x before)) e h

pub at_as : (r : Result Next NoMemory) (now before : List Frame) (cells : List Cell) (t u : RuleTree) → t ≡ u → IfOk r (λ n. MeansAt cells now n t before) → IfOk r (λ n. MeansAt cells now n u before)
at_as r now before cells t u e h = subst (λ (x : RuleTree). IfOk r (λ n. MeansAt cells now n x before)) e h

pub anywhere_as : (r : Result Next NoMemory) (now before : List Frame) (t u : RuleTree) → t ≡ u → IfOk r (λ n. MeansAnywhere now n t before) → IfOk r (λ n. MeansAnywhere now n u before)
anywhere_as r now before t u e h = subst (λ (x : RuleTree). IfOk r (λ n. MeansAnywhere now n x before)) e h

pub each_as : (r : Result Next NoMemory) (t u : RuleTree) → t ≡ u → IfOk r (λ n. (stack : List Frame) → Means stack n t stack) → IfOk r (λ n. (stack : List Frame) → Means stack n u stack)
each_as r t u e h = subst (λ (x : RuleTree). IfOk r (λ n. (stack : List Frame) → Means stack n x stack)) e h

pub next_as : (n : Next) (t u : RuleTree) → t ≡ u → ((stack : List Frame) → Means stack n t stack) → (stack : List Frame) → Means stack n u stack
next_as n t u e h = subst (λ (x : RuleTree). (stack : List Frame) → Means stack n x stack) e h

pub each_at_as : (r : Result Next NoMemory) (cells : List Cell) (t u : RuleTree) → t ≡ u → IfOk r (λ n. (stack : List Frame) → MeansAt cells stack n t stack) → IfOk r (λ n. (stack : List Frame) → MeansAt cells stack n u stack)
each_at_as r cells t u e h = subst (λ (x : RuleTree). IfOk r (λ n. (stack : List Frame) → MeansAt cells stack n x stack)) e h

-- ---- states

pub in_state : (n : Next) (now before : List Frame) (t : RuleTree) (s : State) → Means now n t before → MeansIn s now n t before
in_state n now before t s h units printed = ap (λ (x : RuleTree). runs units x s printed) (sym h)

pub anywhere : (r : Result Next NoMemory) (now before : List Frame) (t : RuleTree) → IfOk r (λ n. Means now n t before) → IfOk r (λ n. MeansAnywhere now n t before)
anywhere (Ok n) now before t h = λ s. in_state n now before t s h
anywhere (Err e) now before t h = tt

pub at_cells : (r : Result Next NoMemory) (now before : List Frame) (cells : List Cell) (t : RuleTree) → IfOk r (λ n. Means now n t before) → IfOk r (λ n. MeansAt cells now n t before)
at_cells (Ok n) now before cells t h = λ fixed texts. in_state n now before t (stated fixed cells texts) h
at_cells (Err e) now before cells t h = tt

pub anywhere_at : (r : Result Next NoMemory) (now before : List Frame) (cells : List Cell) (t : RuleTree) → IfOk r (λ n. MeansAnywhere now n t before) → IfOk r (λ n. MeansAt cells now n t before)
anywhere_at (Ok n) now before cells t h = λ fixed texts. h (stated fixed cells texts)
anywhere_at (Err e) now before cells t h = tt

-- over one stack, where it holds of every stack
pub over_one : (r : Result Next NoMemory) (stack : List Frame) (t : RuleTree) → IfOk r (λ n. (stack : List Frame) → Means stack n t stack) → IfOk r (λ n. Means stack n t stack)
over_one (Ok n) stack t h = h stack
over_one (Err e) stack t h = tt

pub over_one_at : (r : Result Next NoMemory) (stack : List Frame) (cells : List Cell) (t : RuleTree) → IfOk r (λ n. (stack : List Frame) → MeansAt cells stack n t stack) → IfOk r (λ n. MeansAt cells stack n t stack)
over_one_at (Ok n) stack cells t h = h stack
over_one_at (Err e) stack cells t h = tt

pub each_at : (r : Result Next NoMemory) (cells : List Cell) (t : RuleTree) → IfOk r (λ n. (stack : List Frame) → Means stack n t stack) → IfOk r (λ n. (stack : List Frame) → MeansAt cells stack n t stack)
each_at (Ok n) cells t h = λ stack fixed texts. in_state n stack stack t (stated fixed cells texts) (h stack)
each_at (Err e) cells t h = tt

-- ---- what waits is pushed

pub popped : (before : List Frame) (f : Frame) (t : RuleTree) → bind (bind t (resume f)) (rest (reverse before)) ≡ bind t (rest (reverse (before ++ f ∷ [])))
popped before f t =
    bind-bind t (resume f) (rest (reverse before))
    ∙ ap (λ (fs : List Frame). bind t (rest fs)) (sym (reverse-append before (f ∷ [])))

pub pushed : (r : Result Next NoMemory) (now before over : List Frame) (f : Frame) (t : RuleTree) → over ≡ before ++ f ∷ []
    → IfOk r (λ n. MeansAnywhere now n t over) → IfOk r (λ n. MeansAnywhere now n (bind t (resume f)) before)
pushed (Ok n) now before over f t e h = λ s units printed.
    ap (λ (x : RuleTree). runs units x s printed) (popped before f t ∙ ap (λ (fs : List Frame). bind t (rest (reverse fs))) (sym e)) ∙ h s units printed
pushed (Err x) now before over f t e h = tt
