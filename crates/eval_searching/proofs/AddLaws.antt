-- Addition of two lists.
use Rattle.std.proofs.Common.{◌≡◌, ◌+◌, ◌∷◌, [], ℕ, ℤ, pos, negsuc, List, Result, Ok, Err, IfOk, length, reverse, refl, sym, ◌∙◌, ap}
use Rattle.rp_base.specs.declared.ends.NoMemory.{NoMemory}
use Rattle.rp_base.specs.declared.plain.Plain.TheVariants as plain
use Rattle.rp_base.specs.declared.value.Value.{Value}
use Rattle.rp_base.specs.declared.value.Value.TheVariants as value
use Rattle.object_operations.specs.declared.operation.Operation.{Operation}
use Rattle.object_operations.specs.declared.operation.Operation.TheVariants as operation
use Rattle.object_operations.specs.declared.special.Special.TheVariants as special
use Rattle.py_ast.specs.declared.program.Program.{Program}
use Rattle.py_store.specs.declared.cell.Cell.{Cell}
use Rattle.side_trees.specs.Trees.{bind}
use Rattle.language_rules.specs.Arithmetic.{adds_from, adds_length}
use Rattle.language_rules.specs.AtOnce.{stated}
use Rattle.language_rules.specs.CellComparing.{on_length_value}
use Rattle.language_rules.specs.Codes.{AddItem, Breaks, Completion, Continues, Drained, Gives, Raises, Returns}
use Rattle.language_rules.specs.Entries.{within_items}
use Rattle.language_rules.specs.Going.{RuleTree, on_value}
use Rattle.language_rules.specs.PlainItems.{number}
use Rattle.language_rules.specs.Running.{runs}
use Rattle.language_rules.specs.Searching.{reads_list}
use Rattle.language_rules.specs.States.{State}
use Rattle.eval_frames.proofs.Shapes.{each_plain, each_value}
use Rattle.eval_frames.proofs.Operating.{code_waits}
use Rattle.eval_frames.specs.declared.frame.Frame.{Frame}
use Rattle.eval_frames.specs.declared.frame.Frame.TheVariants as frame
use Rattle.eval_frames.specs.declared.list_frames.AdditionFrame.TheVariants as addition_frame
use Rattle.eval_frames.specs.declared.next.Next.{Next}
use Rattle.eval_frames.specs.Meaning.{Means, MeansIn, operates_over, rest}
use Rattle.eval_searching.specs.Added.{item_of_added}
use Rattle.eval_searching.specs.Compared.{IsLengthTold}
use Rattle.eval_searching.proofs.CompareLaws.{not_told}

-- the other's item at a position is waited for
pub added_waits : (other : Value) (n i : ℕ) (made : List Value) (o : Operation) (result : Result Next NoMemory) (now stack : List Frame) → o ≡ operation.Special other special.GetItem (number i ∷ [])
    → IfOk result (λ nx. Means now nx (operates_over o (frame.Addition (addition_frame.Item other n i made))) stack) → IfOk result (λ nx. (s : State) → MeansIn s now nx (item_of_added other n i made) stack)
added_waits other n i made o (Ok nx) now stack is m = λ s units printed.
    code_waits s (operation.Special other special.GetItem (number i ∷ [])) (λ a. AddItem other n i made a) (rest (reverse stack)) units printed
    ∙ ap (λ (x : Operation). runs units (bind (operates_over x (frame.Addition (addition_frame.Item other n i made))) (rest (reverse stack))) s printed) (sym is)
    ∙ ap (λ (t : RuleTree). runs units t s printed) (sym m)
added_waits other n i made o (Err x) now stack is m = tt

-- what is done by the length of the other
abbrev pub on_added : ℕ → Value → ℕ → RuleTree
on_added list other n = reads_list list (λ items. within_items (length items + n) (adds_from other n 0 items))

int_added : (list : ℕ) (other : Value) (z : ℤ) → adds_length list other (value.Plain (plain.Int z)) ≡ on_length_value (on_added list other) (value.Plain (plain.Int z))
int_added list other (pos n) = refl
int_added list other (negsuc n) = refl

value_added : (list : ℕ) (other : Value) (v : Value) → adds_length list other v ≡ on_length_value (on_added list other) v
value_added list other =
    each_value (λ v. adds_length list other v ≡ on_length_value (on_added list other) v)
    (each_plain (λ p. adds_length list other (value.Plain p) ≡ on_length_value (on_added list other) (value.Plain p)) refl (λ b. refl) (int_added list other) (λ t. refl) (λ t. refl) refl refl (λ ps. refl))
    (λ vs. refl) (λ n. refl) (λ id. refl)

answer_added : (list : ℕ) (other : Value) (e : Completion) → on_value (adds_length list other) e ≡ on_value (on_length_value (on_added list other)) e
answer_added list other (Gives v) = value_added list other v
answer_added list other (Raises r) = refl
answer_added list other (Returns v) = refl
answer_added list other Breaks = refl
answer_added list other Continues = refl
answer_added list other (Drained vs) = refl

pub not_added : (list : ℕ) (other : Value) (e : Completion) (answer : Result ℕ Next) (n : Next) (cells : List Cell) (stack : List Frame) → IsLengthTold e answer → answer ≡ Err n
    → (fixed : State) (texts : List Program) → MeansIn (stated fixed cells texts) stack n (on_value (adds_length list other) e) stack
not_added list other e answer n cells stack h bad = λ fixed texts units printed.
    ap (λ (t : RuleTree). runs units (bind t (rest (reverse stack))) (stated fixed cells texts) printed) (answer_added list other e)
    ∙ not_told e answer n cells (on_added list other) h bad fixed texts stack units printed
