-- What a comparison of two lists has come to.
use Rattle.std.specs.Prelude.{◌≡◌, ◌==◌, ℕ, suc, pos, List, [], ◌∷◌, length, slice_get, Bool, true, false, Option, Some, None, Result, Ok, Err}
use Rattle.std.specs.Bool.{⊤}
use Rattle.rp_base.specs.declared.exceptions.Beyond.{Beyond}
use Rattle.rp_base.specs.declared.exceptions.Beyond.TheVariants as beyond
use Rattle.rp_base.specs.declared.exceptions.ExcKind.{ExcKind}
use Rattle.rp_base.specs.declared.exceptions.ExcKind.TheVariants as exception
use Rattle.rp_base.specs.declared.operators.CmpOp.{CmpOp}
use Rattle.rp_base.specs.declared.plain.Plain.TheVariants as plain
use Rattle.rp_base.specs.declared.value.Value.{Value}
use Rattle.rp_base.specs.declared.value.Value.TheVariants as value
use Rattle.object_operations.specs.declared.operation.Operation.TheVariants as operation
use Rattle.object_operations.specs.declared.special.Special.TheVariants as special
use Rattle.py_ast.specs.declared.program.Program.{Program}
use Rattle.py_store.specs.declared.cell.Cell.{Cell}
use Rattle.side_trees.specs.Trees.{Return, Stop, bind}
use Rattle.language_rules.specs.AtOnce.{stated}
use Rattle.language_rules.specs.CellComparing.{ends_equality, equal_from, equality, on_length_value, pair_compared, same_length}
use Rattle.language_rules.specs.Codes.{Completion, EqualItem, Gives}
use Rattle.language_rules.specs.Going.{RuleTree, on_value, operates}
use Rattle.language_rules.specs.States.{State}
use Rattle.eval_frames.specs.declared.frame.Frame.{Frame}
use Rattle.eval_frames.specs.declared.list_frames.ListPair.{ListPair}
use Rattle.eval_frames.specs.declared.next.Next.{Next}
use Rattle.eval_frames.specs.Meaning.{IsLight, Means, RunsAs}

-- ---- lengths

-- the answer to a question for a length is this one; else what comes next, whatever was to be done with the length
abbrev pub IsLengthTold : Completion → Result ℕ Next → Type 0
IsLengthTold e (Ok m) = e ≡ Gives (value.Plain (plain.Int (pos m)))
IsLengthTold e (Err n) = (f : ℕ → RuleTree) (stack : List Frame) → Means stack n (on_value (on_length_value f) e) stack

abbrev pub IsLightUnlessTold : Result ℕ Next → Type 0
IsLightUnlessTold (Ok m) = ⊤
IsLightUnlessTold (Err n) = (stack : List Frame) → IsLight stack n stack

-- among these cells the list of this number has so many items; or this way out of the subset comes
abbrev pub HasLength : List Cell → ℕ → ℕ → Option Beyond → Type 0
HasLength cells n len None = (t : RuleTree) (fixed : State) (texts : List Program) (k : Completion → RuleTree) → RunsAs (stated fixed cells texts) (bind (same_length n len (λ items. t)) k) (bind t k)
HasLength cells n len (Some b) = (f : List Value → RuleTree) (fixed : State) (texts : List Program) (k : Completion → RuleTree) → RunsAs (stated fixed cells texts) (bind (same_length n len f) k) (Stop b)

-- ---- steps

-- by the length of the other
abbrev pub by_length : ListPair → ℕ → List Value → RuleTree
by_length p m items = elim (length items == m) [ true ↦ equal_from p.list p.other p.op m 0 | false ↦ equality p.op false ]

-- the other's item at a position
abbrev pub item_of_other : ListPair → ℕ → ℕ → RuleTree
item_of_other p len i = operates (operation.Special p.other special.GetItem (value.Plain (plain.Int (pos i)) ∷ [])) (λ a. EqualItem p.list p.other p.op len i a) (λ a. Return a)

-- the own items with the other's item at a position, where there are as many as there were
abbrev pub at_length : ListPair → ℕ → ℕ → Value → List Value → RuleTree
at_length p len i y items = elim (length items == len) [ true ↦ pair_compared p.list p.other p.op len i y (slice_get items i) | false ↦ Stop beyond.Changed ]

-- behind items that are equal, or not
abbrev pub after_equal : ListPair → ℕ → ℕ → Bool → RuleTree
after_equal p len i b = elim b [ true ↦ equal_from p.list p.other p.op len (suc i) | false ↦ ends_equality p.list p.other p.op len false ]

-- the length of the other at the end
abbrev pub told_end : CmpOp → ℕ → Bool → ℕ → RuleTree
told_end op len b m = elim (m == len) [ true ↦ equality op b | false ↦ Stop beyond.Changed ]

abbrev pub is_index_error : ExcKind → Bool
is_index_error exception.IndexError = true
is_index_error _ = false
