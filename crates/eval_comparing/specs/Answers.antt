-- What a comparison of two values comes to, of which an object may be asked.
use Rattle.std.specs.Prelude.{◌≡◌, ◌==◌, ◌||◌, Bool, true, false, List, [], ◌∷◌, length, reverse, Option, Some, None}
use Rattle.std.specs.Bool.{⊤}
use Rattle.rp_base.specs.declared.exceptions.Beyond.TheVariants as beyond
use Rattle.rp_base.specs.declared.operators.CmpOp.TheVariants as cmp
use Rattle.rp_base.specs.declared.value.Value.{Value}
use Rattle.language_rules.specs.Codes.{Leaves, Step}
use Rattle.language_rules.specs.Comparing.{compare_step, found_step}
use Rattle.language_rules.specs.Going.{and_value}
use Rattle.language_rules.specs.Kinds.{is_reference}
use Rattle.language_rules.specs.Truth.{and_bool, tells, truth_step}
use Rattle.eval_frames.specs.declared.frame.TestLevel.{TestLevel}
use Rattle.eval_frames.specs.declared.frame.ValuePair.{ValuePair}
use Rattle.eval_frames.specs.Meaning.{equal_pairs_step, level_step}
use Rattle.eval_comparing.specs.declared.answer.Answer.{Answer}
use Rattle.eval_comparing.specs.declared.answer.Answer.TheVariants as answer
use Rattle.eval_comparing.specs.declared.answer.Meeting.{Meeting}
use Rattle.eval_comparing.specs.declared.answer.Meeting.TheVariants as meeting
use Rattle.eval_comparing.specs.declared.answer.Question.{Question}
use Rattle.eval_comparing.specs.declared.answer.Turn.{Turn}
use Rattle.eval_comparing.specs.declared.answer.Turn.TheVariants as turn

-- a step, whose truth goes to a level, and the truth of what that tells to the level around it, the innermost first
abbrev pub steps_around : List TestLevel → Step → Step
steps_around [] t = t
steps_around (l ∷ ls) t = steps_around ls (and_bool (and_value t truth_step) (level_step l))

-- the comparison that asks an object, within its levels
abbrev pub question_step : Question → Step
question_step q = steps_around (reverse q.levels) (compare_step cmp.Eq q.left q.right)

abbrev pub refers : Value → Value → Type 0
refers a b = (is_reference a || is_reference b) ≡ true

-- what a step comes to: a bool, a way out of the subset, or a comparison that asks an object
abbrev pub Answers : Step → Answer → Type 0
Answers t (answer.Told b) = t ≡ tells b
Answers t answer.Uneven = t ≡ Leaves beyond.Compare
Answers t (answer.Asked q) = (t ≡ question_step q) × refers q.left q.right

-- where an object is asked, it is one of the two that are compared
abbrev pub MayAsk : Answer → Type 0
MayAsk (answer.Asked q) = refers q.left q.right
MayAsk _ = ⊤

-- whether a value is found in an item, in the same way; the truth of what the comparison tells is the answer
abbrev pub IsFound : Value → Value → Answer → Type 0
IsFound x e (answer.Told b) = found_step x e ≡ tells b
IsFound x e answer.Uneven = found_step x e ≡ Leaves beyond.Compare
IsFound x e (answer.Asked q) = (found_step x e ≡ and_value (question_step q) truth_step) × refers q.left q.right

-- ---- tuples

-- the items of two tuples, pair by pair
abbrev pub pairs_of : List Value → List Value → List ValuePair
pairs_of (x ∷ xs) (y ∷ ys) = record { left = x; right = y } ∷ pairs_of xs ys
pairs_of _ _ = []

-- two tuples are equal where their pairs are; other values that are no objects, of which one is a tuple, are not
abbrev pub tuples_equal : Option (List Value) → Option (List Value) → Step
tuples_equal (Some xs) (Some ys) = elim (length xs == length ys) [ true ↦ equal_pairs_step (pairs_of xs ys) | false ↦ Leaves beyond.Compare ]
tuples_equal _ _ = tells false

-- what a step comes to: at once, or by pairs
abbrev pub MeetsStep : Step → Meeting → Type 0
MeetsStep t (meeting.Told b) = t ≡ tells b
MeetsStep t meeting.Uneven = t ≡ Leaves beyond.Compare
MeetsStep t meeting.Asked = ⊥
MeetsStep t (meeting.Deeper pairs) = t ≡ equal_pairs_step (reverse pairs)

-- how a value is found in an item: at once, by an object that is asked, or by their pairs
abbrev pub MeetsItem : Value → Value → Meeting → Type 0
MeetsItem x y (meeting.Told b) = found_step x y ≡ tells b
MeetsItem x y meeting.Uneven = found_step x y ≡ Leaves beyond.Compare
MeetsItem x y meeting.Asked = (found_step x y ≡ and_value (compare_step cmp.Eq x y) truth_step) × refers x y
MeetsItem x y (meeting.Deeper pairs) = found_step x y ≡ and_value (equal_pairs_step (reverse pairs)) truth_step

-- ---- level by level

-- with these levels around it a step comes to a bool within others, to a way out of the subset, or to a comparison within others
abbrev pub Turns : List TestLevel → List TestLevel → Step → Turn → Type 0
Turns old new t (turn.Told b) = steps_around (reverse old) t ≡ steps_around (reverse new) (tells b)
Turns old new t turn.Uneven = steps_around (reverse old) t ≡ Leaves beyond.Compare
Turns old new t (turn.Asked x y) = (steps_around (reverse old) t ≡ steps_around (reverse new) (compare_step cmp.Eq x y)) × refers x y

-- a truth that is the value
abbrev pub told_step : Bool → Step
told_step b = elim b [ true ↦ tells true | false ↦ tells false ]
