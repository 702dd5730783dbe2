-- A class of exceptions that is raised with arguments.
use Rattle.std.proofs.Common.{◌≡◌, ℕ, List, reverse, Option, Some, Result, Ok, Err, IfOk, refl, sym, ◌∙◌, ap}
use mathlib.Core.Path.{fun_ext}
use Rattle.rp_base.specs.declared.ends.NoMemory.{NoMemory}
use Rattle.rp_base.specs.declared.exceptions.ExcKind.{ExcKind}
use Rattle.rp_base.specs.declared.value.Value.{Value}
use Rattle.side_trees.specs.Trees.{bind}
use Rattle.language_rules.specs.Codes.{Env}
use Rattle.language_rules.specs.Exceptions.{exception_named}
use Rattle.language_rules.specs.Going.{RuleTree, evaluates_all}
use Rattle.language_rules.specs.Raising.{raise_call_rule, raise_with}
use Rattle.eval_frames.specs.declared.frame.Frame.{Frame}
use Rattle.eval_frames.specs.declared.frame.Gathering.TheVariants as gathering
use Rattle.eval_frames.specs.declared.next.Next.{Next}
use Rattle.eval_frames.specs.Meaning.{Means, gathers, rest}

raise_gathered : (k : ExcKind) → gathers (gathering.Raise k) ≡ raise_with (Some k)
raise_gathered k = fun_ext (λ vs. refl)

pub class_raised : (env : Env) (name : List ℕ) (arguments : List ℕ) (found : Option ExcKind) (k : ExcKind) (now before : List Frame) (r : Result Next NoMemory)
    → found ≡ exception_named name → found ≡ Some k
    → IfOk r (λ n. Means now n (evaluates_all env arguments (gathers (gathering.Raise k))) before)
    → IfOk r (λ n. Means now n (raise_call_rule env name arguments) before)
class_raised env name arguments found k now before (Ok n) is told h =
    h
    ∙ ap (λ (f : List Value → RuleTree). bind (evaluates_all env arguments f) (rest (reverse before))) (raise_gathered k)
    ∙ ap (λ (o : Option ExcKind). bind (evaluates_all env arguments (raise_with o)) (rest (reverse before))) (sym told ∙ is)
class_raised env name arguments found k now before (Err e) is told h = h
