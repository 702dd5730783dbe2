-- The old value of what is augmented, and what is asked for it.
use Rattle.std.proofs.Common.{◌≡◌, ◌∷◌, [], List, Bool, true, if◌then◌else◌, Option, Some, Result, Ok, Err, IfOk, reverse, sym, ◌∙◌, ap, subst}
use Rattle.rp_base.specs.declared.ends.NoMemory.{NoMemory}
use Rattle.rp_base.specs.declared.ends.OpEnd.{OpEnd}
use Rattle.rp_base.specs.declared.value.Value.{Value}
use Rattle.object_operations.specs.declared.operation.Operation.{Operation}
use Rattle.object_operations.specs.declared.operation.Operation.TheVariants as operation
use Rattle.object_operations.specs.declared.special.Special.TheVariants as special
use Rattle.side_trees.specs.Trees.{Return, bind}
use Rattle.language_rules.specs.Answers.{asked}
use Rattle.language_rules.specs.AtOnce.{Comes, Computes, ComputesUnlessAsked}
use Rattle.language_rules.specs.Codes.{Give, Gives}
use Rattle.language_rules.specs.Draining.{items_at_hand}
use Rattle.language_rules.specs.Going.{RuleTree, asks, on_value}
use Rattle.language_rules.specs.Kinds.{is_reference}
use Rattle.language_rules.specs.PlainItems.{item_of, item_within, sequence_name}
use Rattle.language_rules.specs.Running.{runs}
use Rattle.language_rules.specs.States.{State}
use Rattle.eval_frames.proofs.Operating.{operates_bound}
use Rattle.eval_frames.specs.declared.frame.Frame.{Frame}
use Rattle.eval_frames.specs.declared.next.Next.{Next}
use Rattle.eval_frames.specs.Meaning.{Means, MeansIn, operates_over, rest}
use Rattle.eval_targets.proofs.KindedOperands.{comes_without}

-- ---- an operation that is another one

pub asks_as : (o p : Operation) (f : Value → RuleTree) (now stack : List Frame) (result : Result Next NoMemory) → o ≡ p → IfOk result (λ n. Means now n (asks o f) stack) → IfOk result (λ n. Means now n (asks p f) stack)
asks_as o p f now stack result is h = subst (λ (q : Operation). IfOk result (λ n. Means now n (asks q f) stack)) is h

pub operates_as : (o p : Operation) (f : Frame) (now stack : List Frame) (result : Result Next NoMemory) → o ≡ p → IfOk result (λ n. Means now n (operates_over o f) stack) → IfOk result (λ n. Means now n (operates_over p f) stack)
operates_as o p f now stack result is h = subst (λ (q : Operation). IfOk result (λ n. Means now n (operates_over q f) stack)) is h

-- ---- an item

item_asked : (v key : Value) → is_reference v ≡ true → item_of v key ≡ asked (operation.Special v special.GetItem (key ∷ []))
unfolding item_of
item_asked v key h = ap (λ (b : Bool). if b then asked (operation.Special v special.GetItem (key ∷ [])) else item_within (sequence_name v) key (items_at_hand v)) h

-- its object is asked
pub old_asked : (v key : Value) (f : Value → RuleTree) (now stack : List Frame) (result : Result Next NoMemory) → is_reference v ≡ true
    → IfOk result (λ n. Means now n (asks (operation.Special v special.GetItem (key ∷ [])) f) stack)
    → IfOk result (λ n. (s : State) → MeansIn s now n (bind (item_of v key) (on_value f)) stack)
old_asked v key f now stack (Ok n) is h = λ s units printed.
    ap (λ (t : RuleTree). runs units (bind (bind t (on_value f)) (rest (reverse stack))) s printed) (item_asked v key is)
    ∙ ap (λ (t : RuleTree). runs units (bind t (rest (reverse stack))) s printed) (operates_bound (operation.Special v special.GetItem (key ∷ [])) (λ a. Give a) (λ a. Return a) (on_value f))
    ∙ ap (λ (t : RuleTree). runs units t s printed) (sym h)
old_asked v key f now stack (Err e) is h = tt

-- it is at hand
pub old_at_hand : (v key old : Value) (f : Value → RuleTree) (found : Result (Option Value) OpEnd) (now stack : List Frame) (result : Result Next NoMemory)
    → ComputesUnlessAsked (item_of v key) found → found ≡ Ok (Some old)
    → IfOk result (λ n. Means now n (f old) stack)
    → IfOk result (λ n. (s : State) → MeansIn s now n (bind (item_of v key) (on_value f)) stack)
old_at_hand v key old f found now stack (Ok n) told is h = λ s units printed.
    let there : item_of v key ≡ Return (Gives old) = subst (λ (r : Result (Option Value) OpEnd). ComputesUnlessAsked (item_of v key) r) is told in
    ap (λ (t : RuleTree). runs units (bind (bind t (on_value f)) (rest (reverse stack))) s printed) there
    ∙ ap (λ (t : RuleTree). runs units t s printed) (sym h)
old_at_hand v key old f found now stack (Err e) told is h = tt

-- there is none
pub no_old : (v key : Value) (f : Value → RuleTree) (found : Result (Option Value) OpEnd) (e : OpEnd) (stack : List Frame) (result : Result Next NoMemory)
    → ComputesUnlessAsked (item_of v key) found → found ≡ Err e
    → IfOk result (λ n. (s : State) (t : RuleTree) (stack : List Frame) → Comes t s (Err e) s s → MeansIn s stack n t stack)
    → IfOk result (λ n. (s : State) → MeansIn s stack n (bind (item_of v key) (on_value f)) stack)
no_old v key f found e stack (Ok n) told is h = λ s.
    let there : Computes (item_of v key) (Err e) = subst (λ (r : Result (Option Value) OpEnd). ComputesUnlessAsked (item_of v key) r) is told in
    h s (bind (item_of v key) (on_value f)) stack (comes_without (item_of v key) f s e there)
no_old v key f found e stack (Err x) told is h = tt
