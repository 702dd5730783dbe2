-- What comes of the answer of a method of a text.
use Rattle.std.proofs.Common.{◌≡◌, ◌∙◌, List, reverse, true, Result, Ok, Err, IfOk, refl, sym, ap, subst}
use Rattle.rp_base.specs.declared.ends.NoMemory.{NoMemory}
use Rattle.rp_base.specs.declared.ends.OpEnd.{OpEnd}
use Rattle.rp_base.specs.declared.ends.OpEnd.TheVariants as op_end
use Rattle.rp_base.specs.declared.value.Value.{Value}
use Rattle.object_operations.specs.declared.method.BuiltinMethod.{BuiltinMethod}
use Rattle.object_operations.specs.declared.method.BuiltinMethod.TheVariants as method
use Rattle.py_ast.specs.declared.program.Program.{Program}
use Rattle.py_store.specs.declared.cell.Cell.{Cell}
use Rattle.side_trees.specs.Trees.{bind}
use Rattle.language_rules.specs.AtOnce.{ComputesUnlessAsked, stated}
use Rattle.language_rules.specs.Going.{RuleTree}
use Rattle.language_rules.specs.Running.{runs}
use Rattle.language_rules.specs.States.{State}
use Rattle.eval_frames.specs.declared.frame.Frame.{Frame}
use Rattle.eval_frames.specs.declared.next.Next.{Next}
use Rattle.eval_frames.specs.Meaning.{Means, MeansIn, rest}
use Rattle.text_methods.specs.TextAnswers.{Answers, joins_one}
use Rattle.text_methods.specs.declared.answers.TextAnswer.{TextAnswer}

-- a computation that is another one, which this comes next of
pub as_another : (t u : RuleTree) (n : Next) (cells : List Cell) (stack : List Frame) → t ≡ u → Means stack n u stack
    → (fixed : State) (texts : List Program) → MeansIn (stated fixed cells texts) stack n t stack
as_another t u n cells stack is h fixed texts units printed =
    ap (λ (x : RuleTree). runs units (bind x (rest (reverse stack))) (stated fixed cells texts) printed) is
    ∙ ap (λ (x : RuleTree). runs units x (stated fixed cells texts) printed) (sym h)

-- what holds of `join` holds of a method that goes over its argument
pub only_join : (P : BuiltinMethod → Type 0) (m : BuiltinMethod) (vs : List Value) → joins_one m vs ≡ true → P method.Join → P m
only_join P method.Join vs e h = h
only_join P _ vs e h = cc

-- an end without a value
err_computes : (t : RuleTree) (e : OpEnd) → Answers t (Err e) → ComputesUnlessAsked t (Err e)
err_computes t (op_end.Raise r) h = h
err_computes t (op_end.Beyond b) h = h
err_computes t op_end.NoMemory h = h

pub ended_text : (t : RuleTree) (answer : Result TextAnswer OpEnd) (e : OpEnd) (r : Result Next NoMemory) (cells : List Cell) (stack : List Frame) → answer ≡ Err e → Answers t answer
    → IfOk r (λ n. (t : RuleTree) (stack : List Frame) → ComputesUnlessAsked t (Err e) → Means stack n t stack)
    → IfOk r (λ n. (fixed : State) (texts : List Program) → MeansIn (stated fixed cells texts) stack n t stack)
ended_text t answer e (Ok n) cells stack is told h = as_another t t n cells stack refl (h t stack (err_computes t e (subst (λ (a : Result TextAnswer OpEnd). Answers t a) is told)))
ended_text t answer e (Err z) cells stack is told h = h
