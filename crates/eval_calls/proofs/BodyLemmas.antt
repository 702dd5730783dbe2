-- The body of a function, over what waits for its end.
use Rattle.std.proofs.Common.{if◌then◌else◌, ◌≡◌, ℕ, Bool, true, false, List, [], ◌∷◌, ◌++◌, reverse, Result, Ok, Err, IfOk, refl, sym, ◌∙◌, ap}
use mathlib.Core.Path.{fun_ext}
use Rattle.rp_base.specs.declared.ends.NoMemory.{NoMemory}
use Rattle.py_ast.specs.declared.program.FunctionInfo.{FunctionInfo}
use Rattle.py_store.specs.declared.cell.Cell.TheVariants as cell
use Rattle.side_trees.proofs.BindLaw.{bind-bind}
use Rattle.side_trees.specs.Trees.{Return, Spend, bind}
use Rattle.language_rules.specs.Codes.{Completion, Env, Gives, Raises, Returns, Breaks, Continues, Drained}
use Rattle.language_rules.specs.Codes as codes
use Rattle.language_rules.specs.Functions.{ends_call, returned}
use Rattle.language_rules.specs.Going.{RuleTree, evaluates, executes_all, on_value, sets_cell}
use Rattle.eval_frames.specs.declared.frame.Frame.{Frame}
use Rattle.eval_frames.specs.declared.frame.Frame.TheVariants as frame
use Rattle.eval_frames.specs.declared.frame.StatementFrame.TheVariants as statement_frame
use Rattle.eval_frames.specs.declared.next.Next.{Next}
use Rattle.eval_frames.specs.declared.next.Next.TheVariants as next
use Rattle.eval_frames.specs.Meaning.{Means, enters_over, meant, rest, resume}
use Rattle.std.proofs.lemmas.List.{reverse-append}
use Rattle.eval_calls.specs.Waiting.{waits_for_end}

-- ---- what waits for the end

-- the end of a call, by whether a function stands inside
abbrev ended_by : Bool → ℕ → ℕ → Completion → RuleTree
ended_by has_inner scope parent a = if has_inner then Return (returned a) else sets_cell scope (cell.Scope [] parent) (Return (returned a))

by-inner : (has_inner : Bool) (scope parent : ℕ) (a : Completion) → resume (waits_for_end has_inner scope parent) a ≡ ended_by has_inner scope parent a
by-inner true scope parent a = refl
by-inner false scope parent a = refl

ends : (f : Frame) (info : FunctionInfo) (scope parent : ℕ) → f ≡ waits_for_end info.has_inner scope parent → (a : Completion) → resume f a ≡ ends_call info scope parent a
ends f info scope parent is a = ap (λ (g : Frame). resume g a) is ∙ by-inner info.has_inner scope parent a

-- ---- a suite

-- what follows a statement of the body
follows : (f : Frame) (info : FunctionInfo) (scope parent : ℕ) (t : RuleTree) (k : Completion → RuleTree) → f ≡ waits_for_end info.has_inner scope parent
    → bind t (λ a. bind (resume f a) k) ≡ bind (bind t (ends_call info scope parent)) k
follows f info scope parent t k is =
    ap (λ (j : Completion → RuleTree). bind t (λ a. bind (j a) k)) (fun_ext (ends f info scope parent is))
    ∙ sym (bind-bind t (ends_call info scope parent) k)

two-last : (stack : List Frame) (w f : Frame) → reverse ((stack ++ w ∷ []) ++ f ∷ []) ≡ f ∷ w ∷ reverse stack
two-last stack w f = reverse-append (stack ++ w ∷ []) (f ∷ []) ∙ ap (λ (fs : List Frame). f ∷ fs) (reverse-append stack (w ∷ []))

pub suite_entered : (f : Frame) (info : FunctionInfo) (env : Env) (parent n : ℕ) (waiting : List ℕ) (stack between now : List Frame)
    → f ≡ waits_for_end info.has_inner env.scope parent
    → between ≡ stack ++ f ∷ [] → now ≡ between ++ frame.Statement (statement_frame.Suite env waiting) ∷ []
    → Means now (next.Enter env n) (bind (executes_all env (n ∷ reverse waiting)) (ends_call info env.scope parent)) stack
suite_entered f info env parent n waiting stack between now is h g =
    ap (λ (fs : List Frame). Spend (codes.Node env n) (rest (reverse fs))) (g ∙ ap (λ (fs : List Frame). fs ++ frame.Statement (statement_frame.Suite env waiting) ∷ []) h)
    ∙ ap (λ (fs : List Frame). Spend (codes.Node env n) (rest fs)) (two-last stack f (frame.Statement (statement_frame.Suite env waiting)))
    ∙ ap (λ (k : Completion → RuleTree). Spend (codes.Node env n) k) (fun_ext (λ a. follows f info env.scope parent (resume (frame.Statement (statement_frame.Suite env waiting)) a) (rest (reverse stack)) is))

-- ---- an expression

as-it-is : (a : Completion) → Return a ≡ on_value (λ v. Return (Gives v)) a
as-it-is (Gives v) = refl
as-it-is (Raises r) = refl
as-it-is (Returns v) = refl
as-it-is Breaks = refl
as-it-is Continues = refl
as-it-is (Drained vs) = refl

value-ends : (f : Frame) (info : FunctionInfo) (scope parent : ℕ) (a : Completion) (k : Completion → RuleTree) → f ≡ waits_for_end info.has_inner scope parent
    → bind (resume f a) k ≡ bind (bind (on_value (λ v. Return (Gives v)) a) (ends_call info scope parent)) k
value-ends f info scope parent a k is =
    ap (λ (t : RuleTree). bind t k) (ends f info scope parent is a)
    ∙ ap (λ (t : RuleTree). bind (bind t (ends_call info scope parent)) k) (as-it-is a)

pub expression_entered : (f : Frame) (info : FunctionInfo) (env : Env) (parent : ℕ) (stack now : List Frame) (r : Result Next NoMemory)
    → f ≡ waits_for_end info.has_inner env.scope parent
    → IfOk r (λ n. meant now n ≡ enters_over env info.body f stack)
    → IfOk r (λ n. Means now n (bind (evaluates env info.body (λ v. Return (Gives v))) (ends_call info env.scope parent)) stack)
expression_entered f info env parent stack now (Ok n) is h =
    h ∙ ap (λ (k : Completion → RuleTree). Spend (codes.Node env info.body) k) (fun_ext (λ a. value-ends f info env.scope parent a (rest (reverse stack)) is))
expression_entered f info env parent stack now (Err e) is h = h

-- ---- the node at the body's number
