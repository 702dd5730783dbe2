-- The text of a tuple that holds objects, which is made level by level.
use Rattle.std.specs.Prelude.{◌≡◌, ◌+◌, ◌++◌, ℕ, nat_lt, length, List, [], ◌∷◌, Bool, true, false, codes, map, reverse}
use Rattle.std.specs.Bool.{⊤}
use Rattle.rp_base.specs.declared.exceptions.Beyond.TheVariants as beyond
use Rattle.rp_base.specs.declared.value.Value.{Value}
use Rattle.rp_base.specs.Values.{heaviest_value}
use Rattle.side_trees.specs.Trees.{Return, bind}
use Rattle.language_rules.specs.Codes.{Completion, Leaves, Step}
use Rattle.language_rules.specs.Going.{RuleTree}
use Rattle.language_rules.specs.Kinds.{is_reference}
use Rattle.language_rules.specs.Printing.{adds_part, adds_step, further_items_step, item_step, on_text, repr_step, text_ends}
use Rattle.eval_frames.specs.declared.list_frames.TupleLevel.{TupleLevel}
use Rattle.eval_frames.specs.ListFrames.{further_items}
use Rattle.eval_tuple_texts.specs.declared.tuples.TupleText.{TupleText}
use Rattle.eval_tuple_texts.specs.declared.tuples.TupleText.TheVariants as tuple_text
use Rattle.eval_tuple_texts.specs.declared.levels.Turn.{Turn}
use Rattle.eval_tuple_texts.specs.declared.levels.Turn.TheVariants as turn

-- ---- levels

-- what is added behind an item, and the items behind it; a single item is followed by a comma
abbrev pub behind_item : Bool → List Value → List ℕ → Step
behind_item single waiting made = elim single [ true ↦ adds_step made (codes ",)") text_ends | false ↦ further_items_step (map repr_step waiting) made ]

-- a text goes to a level, and the text of that to the level around it, the innermost first
abbrev pub texts_around : List TupleLevel → Step → Step
texts_around [] t = t
texts_around (l ∷ ls) t = texts_around ls (item_step t l.made (behind_item l.is_single (reverse l.waiting)))

abbrev pub text_levels : List TupleLevel → Completion → RuleTree
text_levels [] a = Return a
text_levels (l ∷ ls) a = bind (on_text (λ t. adds_part l.made t (further_items l.is_single (reverse l.waiting))) a) (text_levels ls)

-- ---- what comes of it

-- the whole text; a text that is too long; or an object that is asked for its text, within levels
abbrev pub Shows : Step → TupleText → Type 0
Shows t (tuple_text.Whole u) = t ≡ text_ends u
Shows t tuple_text.TooLong = t ≡ Leaves beyond.Size
Shows t (tuple_text.Asked levels v) = (t ≡ texts_around (reverse levels) (repr_step v)) × (is_reference v ≡ true)

-- what is next: a text that was made, a value whose text is made, an object that is asked; or a text is too long
abbrev pub turn_step : Turn → Step
turn_step (turn.Made t) = text_ends t
turn_step (turn.Begun v) = repr_step v
turn_step (turn.Asked v) = repr_step v
turn_step turn.TooLong = Leaves beyond.Size

abbrev pub TurnsTo : List TupleLevel → List TupleLevel → Step → Turn → Type 0
TurnsTo old new t r = texts_around (reverse old) t ≡ texts_around (reverse new) (turn_step r)

abbrev pub AsksOne : Turn → Type 0
AsksOne (turn.Asked v) = is_reference v ≡ true
AsksOne _ = ⊤

-- a part fits behind what is made, and is there; or not
abbrev pub Fits : List ℕ → List ℕ → Bool → List ℕ → Type 0
Fits before part true made = (made ≡ before ++ part) × (nat_lt heaviest_value (1 + length (before ++ part)) ≡ false)
Fits before part false made = nat_lt heaviest_value (1 + length (before ++ part)) ≡ true
