-- What a text that is made comes to, part by part.
use Rattle.std.specs.Prelude.{◌≡◌, ◌==◌, ◌+◌, ◌++◌, ℕ, suc, nat_lt, length, List, [], ◌∷◌, drop, reverse, Bool, true, false, Option, Some, None, Result, Ok, Err}
use Rattle.std.specs.Bool.{⊤}
use Rattle.rp_base.specs.declared.ends.OpEnd.{OpEnd}
use Rattle.rp_base.specs.declared.ends.OpEnd.TheVariants as op_end
use Rattle.rp_base.specs.declared.exceptions.Beyond.TheVariants as beyond
use Rattle.rp_base.specs.declared.value.Value.{Value}
use Rattle.rp_base.specs.Values.{heaviest_value}
use Rattle.py_store.specs.EntryLists.{EntryList}
use Rattle.side_trees.specs.Trees.{Return, Stop}
use Rattle.language_rules.specs.Codes.{Completion, Code, Gives, Then, ListText, DictText, Ends, Leaves, Asks}
use Rattle.language_rules.specs.Going.{RuleTree, nowhere, operates, text}
use Rattle.language_rules.specs.Printing.{adds_part, gives_text, on_text, prints_entries, prints_items, repr_step}
use Rattle.language_rules.specs.Rules.{expand}
use Rattle.language_rules.specs.States.{State}
use Rattle.eval_frames.specs.declared.frame.Frame.{Frame}
use Rattle.eval_frames.specs.declared.list_frames.TextFrame.{TextFrame}
use Rattle.eval_frames.specs.declared.list_frames.TextFrame.TheVariants as text_frame
use Rattle.eval_frames.specs.declared.next.Next.{Next}
use Rattle.eval_frames.specs.declared.next.Next.TheVariants as next
use Rattle.eval_frames.specs.ListFrames.{through_text}
use Rattle.eval_frames.specs.Meaning.{IsLight, Means, MeansOver}

-- The computation is that which follows by the answer and by what is made by then, or leaves the subset; no exception comes. Want of memory tells nothing.
abbrev pub Makes : {A : Type 0} → RuleTree → (A → List ℕ → RuleTree) → Result A OpEnd → List ℕ → Type 0
Makes t next (Ok a) made = t ≡ next a made
Makes t next (Err (op_end.Raise r)) made = ⊥
Makes t next (Err (op_end.Beyond b)) made = t ≡ Stop b
Makes t next (Err op_end.NoMemory) made = ⊤

-- a part that is added, with what follows
abbrev pub Adds : ((List ℕ → RuleTree) → RuleTree) → Result ⊤ OpEnd → List ℕ → Type 0
Adds t answer made = (next : List ℕ → RuleTree) → Makes (t next) (λ u text. next text) answer made

-- the part is behind what was made, where it is within the limit; else the size that the limit passes. Want of memory tells nothing.
abbrev pub PartComes : List ℕ → List ℕ → Result ⊤ OpEnd → List ℕ → Type 0
PartComes before part (Ok u) made = (made ≡ before ++ part) × (nat_lt heaviest_value (1 + length (before ++ part)) ≡ false)
PartComes before part (Err (op_end.Raise r)) made = ⊥
PartComes before part (Err (op_end.Beyond b)) made = (b ≡ beyond.Size) × (nat_lt heaviest_value (1 + length (before ++ part)) ≡ true)
PartComes before part (Err op_end.NoMemory) made = ⊤

-- the text of an item or a value behind what is made: at once, or by the code that goes on with the answer
abbrev pub item_text : (Completion → Code) → List ℕ → Value → (List ℕ → RuleTree) → RuleTree
item_text f before v next = elim (repr_step v) [
  | Ends a ↦ on_text (λ t. adds_part before t next) a
  | Leaves b ↦ Stop b
  | Asks o c ↦ operates o (λ a. Then (c a) f) (λ a. Return a)
]

-- behind a value whose text was added; or at one that has to be asked
abbrev pub behind_text : (List ℕ → Completion → Code) → Value → (List ℕ → RuleTree) → Bool → List ℕ → RuleTree
behind_text f v next true made = next made
behind_text f v next false made = item_text (f made) made v next

-- ---- lists

-- the item at a position, behind what is made, and those behind it
abbrev pub item_of_list : ℕ → ℕ → Value → List Value → List ℕ → RuleTree
item_of_list n i v vs made = item_text (λ r. ListText n i made r) made v (λ after. prints_items n (suc i) after vs)

abbrev pub first_of_list : ℕ → ℕ → List Value → List ℕ → RuleTree
first_of_list n i [] made = nowhere
first_of_list n i (v ∷ vs) made = item_of_list n i v vs made

-- behind an item whose text was added; or at one that has to be asked
abbrev pub behind_item : ℕ → ℕ → Value → List Value → Bool → List ℕ → RuleTree
behind_item n i v vs = behind_text (λ made r. ListText n i made r) v (λ after. prints_items n (suc i) after vs)

-- the same at a position
abbrev pub behind_position : ℕ → ℕ → List Value → Bool → List ℕ → RuleTree
behind_position n i items true made = prints_items n (suc i) made (drop (suc i) items)
behind_position n i items false made = first_of_list n i (drop i items) made

-- the whole text; or up to an item that has to be asked
abbrev pub left_of_list : ℕ → List Value → Option ℕ → List ℕ → RuleTree
left_of_list n items None made = gives_text made
left_of_list n items (Some i) made = first_of_list n i (drop i items) made

-- ---- dicts

-- the value at a position, behind what is made, and the entries behind it
abbrev pub value_of_dict : ℕ → ℕ → ℕ → Value → EntryList → List ℕ → RuleTree
value_of_dict n shape i v es made = item_text (λ r. DictText n shape i made r) made v (λ after. prints_entries n shape (suc i) after es)

abbrev pub first_of_dict : ℕ → ℕ → ℕ → EntryList → List ℕ → RuleTree
first_of_dict n shape i [] made = nowhere
first_of_dict n shape i (e ∷ es) made = value_of_dict n shape i e.1 es made

-- what stands in front of a value, and then the value
abbrev pub behind_value : ℕ → ℕ → ℕ → Value → EntryList → Bool → List ℕ → RuleTree
behind_value n shape i v es = behind_text (λ made r. DictText n shape i made r) v (λ after. prints_entries n shape (suc i) after es)

abbrev pub behind_entry : ℕ → ℕ → ℕ → EntryList → Bool → List ℕ → RuleTree
behind_entry n shape i entries true made = prints_entries n shape (suc i) made (drop (suc i) entries)
behind_entry n shape i entries false made = first_of_dict n shape i (drop i entries) made

abbrev pub left_of_dict : ℕ → ℕ → EntryList → Option ℕ → List ℕ → RuleTree
left_of_dict n shape entries None made = gives_text made
left_of_dict n shape entries (Some i) made = first_of_dict n shape i (drop i entries) made

-- behind the text of the value at a position, where keys neither came nor went
abbrev pub on_same_keys : ℕ → ℕ → ℕ → List ℕ → List ℕ → EntryList → ℕ → RuleTree
on_same_keys n shape i printed t entries now = elim (now == shape) [
  | true ↦ adds_part printed t (λ after. prints_entries n shape (suc i) after (drop (suc i) entries))
  | false ↦ Stop beyond.Changed
]

-- ---- answers

-- the answer to a question for a text is this one; else what comes next, whatever was to be done with the text
abbrev pub IsTextTold : Completion → Result (List ℕ) Next → Type 0
IsTextTold e (Ok t) = e ≡ Gives (text t)
IsTextTold e (Err n) = (f : List ℕ → RuleTree) (stack : List Frame) → Means stack n (on_text f e) stack

abbrev pub IsLightUnlessTold : Result (List ℕ) Next → Type 0
IsLightUnlessTold (Ok t) = ⊤
IsLightUnlessTold (Err n) = (stack : List Frame) → IsLight stack n stack

-- what comes next is the way out of the subset that this end is
abbrev pub IsLeft : OpEnd → Next → Type 0
IsLeft (op_end.Beyond b) n = n ≡ next.Leave b
IsLeft _ n = ⊥

-- a frame that goes on with the text as this code does
abbrev pub GoesOnAs : TextFrame → (Completion → Code) → Type 0
GoesOnAs frame f = (r : Completion) → expand (f r) ≡ through_text frame r

-- a frame that goes on with the text of an item
abbrev pub TakesText : TextFrame → Type 0
TakesText (text_frame.List n i made) = ⊤
TakesText (text_frame.Dict n shape i made) = ⊤
TakesText _ = ⊥

-- the state in which these lists and dicts are being printed, whose innermost is the last
abbrev pub printing_in : State → List ℕ → State
printing_in s printing = record s { printing = reverse printing }

-- what comes next, whatever else is in the state, with what is being printed before and after
abbrev pub MeansPrinting : List ℕ → List ℕ → List Frame → Next → RuleTree → List Frame → Type 0
MeansPrinting before after now n t waited = (s : State) → MeansOver (printing_in s before) (printing_in s after) now n t waited
