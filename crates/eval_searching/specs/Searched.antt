-- What a search has come to.
use Rattle.std.specs.Prelude.{◌≡◌, ℕ, suc, List, [], ◌∷◌, drop, Bool, true, false, Option, Some, None}
use Rattle.rp_base.specs.declared.operators.CmpOp.TheVariants as cmp
use Rattle.rp_base.specs.declared.value.Value.{Value}
use Rattle.side_trees.specs.Trees.{Return, Stop}
use Rattle.language_rules.specs.Codes.{Code, Completion, Gives, Then, SearchNext, Step, Ends, Leaves, Asks}
use Rattle.language_rules.specs.Comparing.{compare_step, found_step, same_object}
use Rattle.language_rules.specs.Going.{RuleTree, and_value, none, nowhere, operates}
use Rattle.language_rules.specs.Rules.{expand}
use Rattle.language_rules.specs.Searching.{gives_position, searches_from}
use Rattle.language_rules.specs.Truth.{on_bool, tells, truth_step}
use Rattle.eval_frames.specs.declared.frame.Frame.{Frame}
use Rattle.eval_frames.specs.Meaning.{resume}
use Rattle.eval_searching.specs.declared.lists.Searched.{Searched}
use Rattle.eval_searching.specs.declared.lists.Searched.TheVariants as searched

-- Whether a value is found in an item; without an answer they are not one object, and one of them may have to be asked.
abbrev pub IsFound : Value → Value → Option Bool → Type 0
IsFound x e (Some b) = found_step x e ≡ tells b
IsFound x e None = same_object x e ≡ false

-- what is done by the end of a step, at once, or by the code that goes on with the answer
abbrev pub by_step : Step → (Completion → Code) → (Bool → RuleTree) → RuleTree
by_step s f next = elim s [
  | Ends a ↦ on_bool next a
  | Leaves b ↦ Stop b
  | Asks o c ↦ operates o (λ a. Then (c a) f) (λ a. Return a)
]

-- the comparison of a value with an item that is not the same object
abbrev pub equal_step : Value → Value → Step
equal_step x e = and_value (compare_step cmp.Eq x e) truth_step

-- a frame that goes on with a bool as this code does
abbrev pub GoesOnAs : Frame → (Completion → Code) → (Bool → RuleTree) → Type 0
GoesOnAs frame f next = (r : Completion) → (expand (f r) ≡ on_bool next r) × (resume frame r ≡ on_bool next r)

-- a frame that goes on with a bool so
abbrev pub WaitsFor : Frame → (Bool → RuleTree) → Type 0
WaitsFor frame next = (r : Completion) → resume frame r ≡ on_bool next r

-- ---- lists

-- behind an item in which the value is found, or not
abbrev pub after_item : ℕ → ℕ → Value → List Value → Bool → RuleTree
after_item n i x es b = elim b [ true ↦ gives_position i | false ↦ searches_from n (suc i) x es ]

-- the item at a position is compared, and those behind it are searched
abbrev pub item_asked : ℕ → ℕ → Value → List Value → RuleTree
item_asked n i x [] = nowhere
item_asked n i x (e ∷ es) = by_step (equal_step x e) (λ r. SearchNext n i x r) (after_item n i x es)

abbrev pub behind_item : ℕ → ℕ → Value → List Value → Option Bool → RuleTree
behind_item n i x items (Some b) = after_item n i x (drop (suc i) items) b
behind_item n i x items None = item_asked n i x (drop i items)

-- the value is in no item; or in one at a position; or the item at a position has to be compared
abbrev pub left_of_search : ℕ → Value → List Value → Searched → RuleTree
left_of_search n x items searched.Nowhere = Return (Gives none)
left_of_search n x items (searched.Found i) = gives_position i
left_of_search n x items (searched.Asked i) = item_asked n i x (drop i items)
