-- The turns of a `while` on a stack.
use Rattle.std.proofs.Common.{◌≡◌, ℕ, List, [], ◌∷◌, ◌++◌, reverse, Result, Ok, Err, IfOk, sym, ◌∙◌, ap}
use Rattle.std.proofs.lemmas.List.{reverse-append}
use mathlib.Core.Path.{fun_ext}
use Rattle.rp_base.specs.declared.ends.NoMemory.{NoMemory}
use Rattle.side_trees.proofs.BindLaw.{bind-bind}
use Rattle.side_trees.specs.Trees.{Spend, bind}
use Rattle.language_rules.specs.Beginnings.{while_begins}
use Rattle.language_rules.specs.Codes.{Completion, Env, Node}
use Rattle.language_rules.specs.Going.{RuleTree, executes_all}
use Rattle.language_rules.specs.Loops.{next_turn}
use Rattle.language_rules.specs.Running.{runs}
use Rattle.language_rules.specs.States.{State}
use Rattle.eval_frames.proofs.Turns.{turns}
use Rattle.eval_frames.specs.declared.frame.Decision.TheVariants as decision
use Rattle.eval_frames.specs.declared.frame.Frame.{Frame}
use Rattle.eval_frames.specs.declared.frame.Frame.TheVariants as frame
use Rattle.eval_frames.specs.declared.frame.StatementFrame.TheVariants as statement_frame
use Rattle.eval_frames.specs.declared.next.Next.{Next}
use Rattle.eval_frames.specs.declared.next.Next.TheVariants as next
use Rattle.eval_frames.specs.Meaning.{Means, MeansIn, enters_over, meant, rest, resume}

-- a test that begins over its frame is a turn that begins
pub turn_begun : (env : Env) (test body : ℕ) (now stack : List Frame) (result : Result Next NoMemory)
    → IfOk result (λ n. meant now n ≡ enters_over env test (frame.Test (decision.While env test body)) stack)
    → IfOk result (λ n. (s : State) → MeansIn s now n (while_begins env test body) stack)
turn_begun env test body now stack (Ok n) h = λ s units printed. turns s env test body (rest (reverse stack)) units printed ∙ ap (λ (t : RuleTree). runs units t s printed) (sym h)
turn_begun env test body now stack (Err e) h = h

-- what waits over a frame of a loop
waits-over : (w : Frame) (f : Frame) (fs : List Frame) (env : Env) (n : ℕ)
    → Spend (Node env n) (rest (f ∷ w ∷ fs)) ≡ Spend (Node env n) (λ a. bind (bind (resume f a) (resume w)) (rest fs))
waits-over w f fs env n = ap (λ (k : Completion → RuleTree). Spend (Node env n) k) (fun_ext (λ a. sym (bind-bind (resume f a) (resume w) (rest fs))))

two-last : (stack : List Frame) (w f : Frame) → reverse ((stack ++ w ∷ []) ++ f ∷ []) ≡ f ∷ w ∷ reverse stack
two-last stack w f = reverse-append (stack ++ w ∷ []) (f ∷ []) ∙ ap (λ (fs : List Frame). f ∷ fs) (reverse-append stack (w ∷ []))

pub turn_entered : (env : Env) (test body n : ℕ) (waiting : List ℕ) (stack between now : List Frame)
    → between ≡ stack ++ frame.While env test body ∷ []
    → now ≡ between ++ frame.Statement (statement_frame.Suite env waiting) ∷ []
    → Means now (next.Enter env n) (bind (executes_all env (n ∷ reverse waiting)) (next_turn (while_begins env test body))) stack
turn_entered env test body n waiting stack between now h g =
    ap (λ (fs : List Frame). Spend (Node env n) (rest (reverse fs))) (g ∙ ap (λ (fs : List Frame). fs ++ frame.Statement (statement_frame.Suite env waiting) ∷ []) h)
    ∙ ap (λ (fs : List Frame). Spend (Node env n) (rest fs)) (two-last stack (frame.While env test body) (frame.Statement (statement_frame.Suite env waiting)))
    ∙ waits-over (frame.While env test body) (frame.Statement (statement_frame.Suite env waiting)) (reverse stack) env n
