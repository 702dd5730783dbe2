-- Operands that are evaluated at once.
use Rattle.std.proofs.Common.{◌≡◌, ◌+◌, ◌-◌, ◌≤◌, arith, ℕ, List, [], ◌∷◌, ◌++◌, reverse, Some, Result, Ok, Err, IfOk, sym, ◌∙◌, ap}
use Rattle.std.proofs.lemmas.List.{reverse-append}
use Rattle.rp_base.specs.declared.ends.NoMemory.{NoMemory}
use Rattle.rp_base.specs.declared.value.Value.{Value}
use Rattle.py_ast.specs.declared.program.Program.{Program}
use Rattle.py_store.specs.Cells.{Cells}
use Rattle.side_trees.specs.Trees.{bind}
use Rattle.language_rules.specs.Answers.{evaluated}
use Rattle.language_rules.specs.AtOnce.{stated}
use Rattle.language_rules.specs.Codes.{Env, Gives}
use Rattle.language_rules.specs.Going.{RuleTree, evaluates_behind, on_value}
use Rattle.language_rules.specs.Rules.{expand}
use Rattle.language_rules.specs.Running.{prints_behind, runs}
use Rattle.language_rules.specs.States.{State}
use Rattle.eval_frames.specs.declared.frame.Frame.{Frame}
use Rattle.eval_frames.specs.declared.next.Next.{Next}
use Rattle.eval_frames.specs.Meaning.{Means, MeansIn, rest}
use Rattle.eval_at_once.specs.declared.evaluating.Evaluated.{Evaluated}
use Rattle.eval_at_once.specs.Evaluated.{IsEvaluated}
use Rattle.eval_suites.specs.Within.{GoesOnAs, MeansWithin}
use Rattle.eval_suites.proofs.UnitsLeft.{comes_anyhow}

-- an operand as it stands in front
in_front : (old new : List ℕ) (number : ℕ) → old ≡ new ++ number ∷ [] → reverse old ≡ number ∷ reverse new
in_front old new number e = ap (λ (ns : List ℕ). reverse ns) e ∙ reverse-append new (number ∷ [])

-- what was spent so far, and what is spent more
spent_more : (start units left more : ℕ) → units ≤ start → left ≤ units → (start - left) + more ≡ (start - units) + ((units - left) + more)
spent_more start units left more h g = omega (arith, h, g)

-- one operand more is evaluated
pub operand_more : (texts : List Program) (cells : Cells) (t : (List Value → RuleTree) → RuleTree) (env : Env) (number : ℕ) (old new : List ℕ) (before after : List Value) (start units : ℕ) (e : Evaluated) → old ≡ new ++ number ∷ [] → after ≡ before ++ e.value ∷ [] → units ≤ start
    → ((f : List Value → RuleTree) → GoesOnAs texts cells (t f) (start - units) cells (evaluates_behind env before (reverse old) f)) → IsEvaluated cells.cells texts (evaluated env number) units (Some e)
    → (f : List Value → RuleTree) → GoesOnAs texts cells (t f) (start - e.left) cells (evaluates_behind env after (reverse new) f)
operand_more texts cells t env number old new before after start units e p q less h x f = λ fixed k more printed.
    let s : State = stated fixed cells.cells texts in
    ap (λ (n : ℕ). runs n (bind (t f) k) s printed) (spent_more start units e.left more less (omega (arith, x.1)))
    ∙ h f fixed k ((units - e.left) + more) printed
    ∙ ap (λ (ns : List ℕ). runs ((units - e.left) + more) (bind (evaluates_behind env before ns f) k) s printed) (in_front old new number p)
    ∙ comes_anyhow expand prints_behind units e.left more (evaluated env number) s s printed (Gives e.value) (λ a. bind (on_value (λ v. evaluates_behind env (before ++ v ∷ []) (reverse new) f) a) k) (λ j. x.0 fixed j printed)
    ∙ ap (λ (vs : List Value). runs more (bind (evaluates_behind env vs (reverse new) f) k) s printed) (sym q)

-- what goes on behind the operands that were evaluated at once
pub behind_operands : (texts : List Program) (cells : Cells) (t u : RuleTree) (stack now : List Frame) (spent : ℕ) (r : Result Next NoMemory) → GoesOnAs texts cells t spent cells u
    → IfOk r (λ n. (fixed : State) (others : List Program) → MeansIn (stated fixed cells.cells others) now n u stack)
    → IfOk r (λ n. MeansWithin texts cells t stack spent cells n now)
behind_operands texts cells t u stack now spent (Ok n) goes h = λ fixed more printed. goes fixed (rest (reverse stack)) more printed ∙ h fixed texts more printed
behind_operands texts cells t u stack now spent (Err e) goes h = tt

pub behind_arguments : (texts : List Program) (cells : Cells) (t u : RuleTree) (stack now : List Frame) (spent : ℕ) (r : Result Next NoMemory) → GoesOnAs texts cells t spent cells u
    → IfOk r (λ n. Means now n u stack) → IfOk r (λ n. MeansWithin texts cells t stack spent cells n now)
behind_arguments texts cells t u stack now spent (Ok n) goes h = λ fixed more printed. goes fixed (rest (reverse stack)) more printed ∙ ap (λ (x : RuleTree). runs more x (stated fixed cells.cells texts) printed) (sym h)
behind_arguments texts cells t u stack now spent (Err e) goes h = tt
