-- Operations, and what goes on after their answers.
use Rattle.std.proofs.Common.{◌≡◌, ◌∙◌, ap, sym, zero, suc, Bool, true, false, List, [], ◌∷◌, ◌++◌, reverse, refl, if◌then◌else◌}
use Rattle.std.proofs.lemmas.List.{reverse-append}
use mathlib.Core.Path.{fun_ext}
use Rattle.rp_base.specs.declared.exceptions.Beyond.TheVariants as beyond
use Rattle.object_operations.specs.declared.operation.Operation.{Operation}
use Rattle.side_trees.proofs.BindLaw.{bind-bind}
use Rattle.side_trees.specs.Trees.{Ask, Do, Return, Stop, bind}
use Rattle.language_rules.specs.Answers.{asked}
use Rattle.language_rules.specs.Codes.{Asks, Code, Completion, Ends, Give, Go, Leaves, Perform, Step, Then}
use Rattle.language_rules.specs.Going.{RuleTree, and_then, carry, is_asked, judged_arguments, operates, too_heavy}
use Rattle.language_rules.specs.Perform.{perform}
use Rattle.language_rules.specs.Rules.{expand}
use Rattle.language_rules.specs.Running.{runs}
use Rattle.language_rules.specs.States.{State}
use Rattle.eval_frames.specs.declared.frame.Frame.{Frame}
use Rattle.eval_frames.specs.declared.next.Next.{Next}
use Rattle.eval_frames.specs.Meaning.{Means, RunsAs, operates_over, rest, resume}

-- an operation by what is judged of it
abbrev judged : Bool → Bool → Operation → (Completion → Code) → (Completion → RuleTree) → RuleTree
judged heavy far o c k = if heavy then Stop beyond.Size else (if far then Ask o c k else Do (Perform o) c k)

waits : (heavy far : Bool) (s : State) (o : Operation) (c : Completion → Code) (k : Completion → RuleTree)
    → RunsAs s (bind (judged heavy far o c (λ a. Return a)) k) (bind (judged heavy far o (λ a. Give a) (λ a. expand (c a))) k)
waits true far s o c k units printed = refl
waits false true s o c k units printed = refl
waits false false s o c k zero printed = refl
waits false false s o c k (suc units) printed = refl

pub code_waits : (s : State) (o : Operation) (c : Completion → Code) (k : Completion → RuleTree)
    → RunsAs s (bind (operates o c (λ a. Return a)) k) (bind (operates o (λ a. Give a) (λ a. expand (c a))) k)
code_waits s o c k = waits (too_heavy (judged_arguments o)) (is_asked o) s o c k

-- a piece of code, and then another, with what is behind both
abbrev after_both : (Completion → Code) → (Completion → Code) → (Completion → RuleTree) → Completion → RuleTree
after_both c f k a = bind (expand (Then (c a) f)) k

abbrev after_each : (Completion → Code) → (Completion → Code) → (Completion → RuleTree) → Completion → RuleTree
after_each c f k a = bind (expand (c a)) (λ r. bind (expand (f r)) k)

behind : (c f : Completion → Code) (k : Completion → RuleTree) → after_both c f k ≡ after_each c f k
behind c f k = fun_ext (λ a. bind-bind (expand (c a)) (λ r. expand (f r)) k)

goes_on : (heavy far : Bool) (s : State) (o : Operation) (c f : Completion → Code) (k : Completion → RuleTree)
    → RunsAs s (bind (judged heavy far o (λ a. Then (c a) f) (λ a. Return a)) k) (bind (judged heavy far o c (λ a. Return a)) (λ r. bind (expand (f r)) k))
goes_on true far s o c f k units printed = refl
goes_on false true s o c f k units printed = ap (λ (g : Completion → RuleTree). runs units (Ask o (λ a. Give a) g) s printed) (behind c f k)
goes_on false false s o c f k zero printed = refl
goes_on false false s o c f k (suc units) printed = ap (λ (g : Completion → RuleTree). runs units (bind (perform o) g) s printed) (behind c f k)

pub code_goes_on : (s : State) (o : Operation) (c f : Completion → Code) (k : Completion → RuleTree)
    → RunsAs s (bind (operates o (λ a. Then (c a) f) (λ a. Return a)) k) (bind (operates o c (λ a. Return a)) (λ r. bind (expand (f r)) k))
code_goes_on s o c f k = goes_on (too_heavy (judged_arguments o)) (is_asked o) s o c f k

-- what goes on after an operation goes on after what goes on after its answer
bound : (heavy far : Bool) (o : Operation) (c : Completion → Code) (k j : Completion → RuleTree) → bind (judged heavy far o c k) j ≡ judged heavy far o c (λ a. bind (k a) j)
bound true far o c k j = refl
bound false true o c k j = refl
bound false false o c k j = refl

pub operates_bound : (o : Operation) (c : Completion → Code) (k j : Completion → RuleTree) → bind (operates o c k) j ≡ operates o c (λ a. bind (k a) j)
operates_bound o c k j = bound (too_heavy (judged_arguments o)) (is_asked o) o c k j

-- an operation over a frame that was pushed
pub pushed_over : (o : Operation) (f : Frame) (n : Next) (before now : List Frame) → now ≡ before ++ f ∷ [] → ((stack : List Frame) → Means stack n (asked o) stack) → Means now n (operates_over o f) before
pushed_over o f n before now p h =
    h now
    ∙ ap (λ (fs : List Frame). bind (asked o) (rest (reverse fs))) p
    ∙ ap (λ (fs : List Frame). bind (asked o) (rest fs)) (reverse-append before (f ∷ []))
    ∙ operates_bound o (λ a. Give a) (λ a. Return a) (rest (f ∷ reverse before))
    ∙ sym (operates_bound o (λ a. Give a) (resume f) (rest (reverse before)))

-- a step behind another
pub step_behind : (s : State) (t : Step) (f : Completion → Step) (k : Completion → RuleTree)
    → RunsAs s (bind (carry (and_then t f)) k) (bind (carry t) (λ a. bind (carry (f a)) k))
step_behind s (Ends a) f k units printed = refl
step_behind s (Leaves b) f k units printed = refl
step_behind s (Asks o c) f k units printed = code_goes_on s o c (λ e. Go (f e)) k units printed
