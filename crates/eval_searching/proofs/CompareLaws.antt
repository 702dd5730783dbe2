-- Comparison of two lists.
use Rattle.std.proofs.Common.{◌≡◌, ℕ, [], ◌∷◌, pos, Bool, false, List, Option, Some, None, Result, Ok, Err, IfOk, reverse, refl, sym, ◌∙◌, ap, subst}
use Rattle.rp_base.specs.declared.ends.NoMemory.{NoMemory}
use Rattle.rp_base.specs.declared.exceptions.Beyond.{Beyond}
use Rattle.rp_base.specs.declared.plain.Plain.TheVariants as plain
use Rattle.rp_base.specs.declared.value.Value.{Value}
use Rattle.rp_base.specs.declared.value.Value.TheVariants as value
use Rattle.object_operations.specs.declared.operation.Operation.{Operation}
use Rattle.object_operations.specs.declared.operation.Operation.TheVariants as operation
use Rattle.object_operations.specs.declared.special.Special.TheVariants as special
use Rattle.py_ast.specs.declared.program.Program.{Program}
use Rattle.py_store.specs.declared.cell.Cell.{Cell}
use Rattle.side_trees.specs.Trees.{bind}
use Rattle.language_rules.specs.AtOnce.{stated}
use Rattle.language_rules.specs.CellComparing.{on_length_value, pair_compared, same_length}
use Rattle.language_rules.specs.Codes.{Completion, EqualItem}
use Rattle.language_rules.specs.Comparing.{same_object}
use Rattle.language_rules.specs.Going.{RuleTree, carry, on_value}
use Rattle.language_rules.specs.Running.{runs}
use Rattle.language_rules.specs.States.{State}
use Rattle.language_rules.specs.Truth.{on_bool}
use Rattle.language_rules.specs.Codes.{Step}
use Rattle.eval_frames.proofs.Operating.{code_waits}
use Rattle.eval_frames.specs.declared.frame.Frame.{Frame}
use Rattle.eval_frames.specs.declared.frame.Frame.TheVariants as frame
use Rattle.eval_frames.specs.declared.list_frames.EqualityFrame.TheVariants as equality_frame
use Rattle.eval_frames.specs.declared.list_frames.ListPair.{ListPair}
use Rattle.eval_frames.specs.declared.next.Next.{Next}
use Rattle.eval_frames.specs.Meaning.{Means, MeansIn, operates_over, rest}
use Rattle.eval_searching.specs.Compared.{HasLength, IsLengthTold, after_equal, item_of_other}
use Rattle.eval_searching.specs.Searched.{WaitsFor, equal_step}
use Rattle.eval_searching.proofs.FoundLaws.{apart_found}

-- the other's item at a position is waited for
pub item_waits : (p : ListPair) (len i : ℕ) (o : Operation) (result : Result Next NoMemory) (now stack : List Frame) → o ≡ operation.Special p.other special.GetItem (value.Plain (plain.Int (pos i)) ∷ [])
    → IfOk result (λ n. Means now n (operates_over o (frame.Equality (equality_frame.Item p len i))) stack) → IfOk result (λ n. (s : State) → MeansIn s now n (item_of_other p len i) stack)
item_waits p len i o (Ok n) now stack is m = λ s units printed.
    code_waits s (operation.Special p.other special.GetItem (value.Plain (plain.Int (pos i)) ∷ [])) (λ a. EqualItem p.list p.other p.op len i a) (rest (reverse stack)) units printed
    ∙ ap (λ (x : Operation). runs units (bind (operates_over x (frame.Equality (equality_frame.Item p len i))) (rest (reverse stack))) s printed) (sym is)
    ∙ ap (λ (t : RuleTree). runs units t s printed) (sym m)
item_waits p len i o (Err x) now stack is m = tt

-- a list that is as long as it was
pub as_long : (cells : List Cell) (n len : ℕ) (t : RuleTree) (answer : Option Beyond) (result : Result Next NoMemory) (now stack : List Frame) → HasLength cells n len answer → answer ≡ None
    → IfOk result (λ nx. (s : State) → MeansIn s now nx t stack) → IfOk result (λ nx. (fixed : State) (texts : List Program) → MeansIn (stated fixed cells texts) now nx (same_length n len (λ items. t)) stack)
as_long cells n len t answer (Ok nx) now stack h none m = λ fixed texts units printed.
    subst (λ (o : Option Beyond). HasLength cells n len o) none h t fixed texts (rest (reverse stack)) units printed ∙ m (stated fixed cells texts) units printed
as_long cells n len t answer (Err x) now stack h none m = tt

pub as_long_still : (cells : List Cell) (n len : ℕ) (t : RuleTree) (answer : Option Beyond) (nx : Next) → HasLength cells n len answer → answer ≡ None
    → ((stack : List Frame) → Means stack nx t stack) → (fixed : State) (texts : List Program) (stack : List Frame) → MeansIn (stated fixed cells texts) stack nx (same_length n len (λ items. t)) stack
as_long_still cells n len t answer nx h none m = λ fixed texts stack units printed.
    subst (λ (o : Option Beyond). HasLength cells n len o) none h t fixed texts (rest (reverse stack)) units printed ∙ ap (λ (x : RuleTree). runs units x (stated fixed cells texts) printed) (sym (m stack))

-- an answer that is no length
pub not_told : (e : Completion) (answer : Result ℕ Next) (n : Next) (cells : List Cell) (f : ℕ → RuleTree) → IsLengthTold e answer → answer ≡ Err n
    → (fixed : State) (texts : List Program) (stack : List Frame) → MeansIn (stated fixed cells texts) stack n (on_value (on_length_value f) e) stack
not_told e answer n cells f h bad = λ fixed texts stack units printed.
    ap (λ (x : RuleTree). runs units x (stated fixed cells texts) printed) (sym (subst (λ (a : Result ℕ Next). IsLengthTold e a) bad h f stack))

-- two items of which one is asked
pub pair_referring : (p : ListPair) (len i : ℕ) (x x' y : Value) (result : Result Next NoMemory) (now stack : List Frame) → same_object x y ≡ false → x' ≡ x
    → IfOk result (λ n. (later : Bool → RuleTree) (s : State) → WaitsFor (frame.Equality (equality_frame.Equal p len i)) later → MeansIn s now n (bind (carry (equal_step x' y)) (on_bool later)) stack)
    → IfOk result (λ n. (s : State) → MeansIn s now n (pair_compared p.list p.other p.op len i y (Some x)) stack)
pair_referring p len i x x' y (Ok n) now stack apart copied h = λ s units printed.
    let later : Bool → RuleTree = λ b. same_length p.list len (λ items. after_equal p len i b) in
    ap (λ (t : Step). runs units (bind (bind (carry t) (on_bool later)) (rest (reverse stack))) s printed) (apart_found x y apart)
    ∙ ap (λ (v : Value). runs units (bind (bind (carry (equal_step v y)) (on_bool later)) (rest (reverse stack))) s printed) (sym copied)
    ∙ h later s (λ r. refl) units printed
pair_referring p len i x x' y (Err z) now stack apart copied h = tt
