-- The next item is asked for.
use Rattle.std.proofs.Common.{◌≡◌, ◌∙◌, ap, sym, subst, List, [], ◌∷◌, ◌++◌, reverse, Option, Some, None, Result, IfOk}
use Rattle.rp_base.specs.declared.ends.NoMemory.{NoMemory}
use Rattle.rp_base.specs.declared.exceptions.Beyond.{Beyond}
use Rattle.rp_base.specs.declared.value.Value.{Value}
use Rattle.object_operations.specs.declared.operation.Operation.{Operation}
use Rattle.object_operations.specs.declared.operation.Operation.TheVariants as operation
use Rattle.object_operations.specs.declared.special.Special.TheVariants as special
use Rattle.side_trees.specs.Trees.{bind}
use Rattle.language_rules.specs.Answers.{asked}
use Rattle.language_rules.specs.Codes.{DrainNext}
use Rattle.language_rules.specs.Draining.{asks_next, passes, within_limit}
use Rattle.language_rules.specs.Going.{RuleTree}
use Rattle.language_rules.specs.Running.{runs}
use Rattle.language_rules.specs.States.{State}
use Rattle.eval_frames.proofs.Operating.{code_waits, pushed_over}
use Rattle.eval_frames.specs.declared.frame.Frame.{Frame}
use Rattle.eval_frames.specs.declared.frame.Frame.TheVariants as frame
use Rattle.eval_frames.specs.declared.loop_frames.Collection.{Collection}
use Rattle.eval_frames.specs.declared.loop_frames.DrainFrame.TheVariants as drain_frame
use Rattle.eval_frames.specs.declared.next.Next.{Next}
use Rattle.eval_frames.specs.declared.next.Next.TheVariants as next
use Rattle.eval_frames.specs.LoopFrames.{container}
use Rattle.eval_exprs.specs.Steps.{MeansAnywhere}
use Rattle.eval_frames.specs.Meaning.{Means, MeansIn, rest}

-- the question for the next item, over the frame that waits for it
waits : (n : Next) (collection : Collection) (iterator : Value) (items : List Value) (before now : List Frame) → now ≡ before ++ frame.Drain (drain_frame.Item collection iterator items) ∷ []
    → ((stack : List Frame) → Means stack n (asked (operation.Special iterator special.Next [])) stack)
    → MeansAnywhere now n (asks_next (container collection) iterator items) before
waits n collection iterator items before now p h = λ s units printed.
    code_waits s (operation.Special iterator special.Next []) (λ a. DrainNext (container collection) iterator items a) (rest (reverse before)) units printed
    ∙ ap (λ (t : RuleTree). runs units t s printed) (sym (pushed_over (operation.Special iterator special.Next []) (frame.Drain (drain_frame.Item collection iterator items)) n before now p h))

pub next_asked : (n : Next) (collection : Collection) (iterator copied : Value) (items : List Value) (o : Operation) (before now : List Frame) → copied ≡ iterator → o ≡ operation.Special copied special.Next []
    → now ≡ before ++ frame.Drain (drain_frame.Item collection iterator items) ∷ []
    → ((stack : List Frame) → Means stack n (asked o) stack)
    → MeansAnywhere now n (asks_next (container collection) iterator items) before
next_asked n collection iterator copied items o before now c e p h =
    waits n collection iterator items before now p
    (subst (λ (x : Operation). (stack : List Frame) → Means stack n (asked x) stack) (e ∙ ap (λ (v : Value). operation.Special v special.Next []) c) h)

-- one item more passes no limit
pub within : (r : Result Next NoMemory) (now before : List Frame) (collection : Collection) (iterator : Value) (items more : List Value) (limit : Option Beyond) → more ≡ items → limit ≡ passes (container collection) more → limit ≡ None
    → IfOk r (λ n. MeansAnywhere now n (asks_next (container collection) iterator more) before)
    → IfOk r (λ n. MeansAnywhere now n (within_limit (asks_next (container collection) iterator items) (passes (container collection) items)) before)
within r now before collection iterator items more limit e p none h =
    subst (λ (vs : List Value). IfOk r (λ n. MeansAnywhere now n (within_limit (asks_next (container collection) iterator vs) (passes (container collection) vs)) before)) e
    (subst (λ (l : Option Beyond). IfOk r (λ n. MeansAnywhere now n (within_limit (asks_next (container collection) iterator more) l) before)) (sym none ∙ p) h)

-- or it passes one
pub beyond_limit : (before : List Frame) (collection : Collection) (iterator : Value) (items more : List Value) (limit : Option Beyond) (b : Beyond) (s : State) → more ≡ items → limit ≡ passes (container collection) more → limit ≡ Some b
    → MeansIn s before (next.Leave b) (within_limit (asks_next (container collection) iterator items) (passes (container collection) items)) before
beyond_limit before collection iterator items more limit b s e p some = λ units printed.
    ap (λ (l : Option Beyond). runs units (bind (within_limit (asks_next (container collection) iterator items) l) (rest (reverse before))) s printed) (ap (λ (vs : List Value). passes (container collection) vs) (sym e) ∙ sym p ∙ some)
