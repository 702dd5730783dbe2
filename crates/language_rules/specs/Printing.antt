-- The texts of values and of objects (Python Library Reference, "Built-in Functions", `repr`, and "Text Sequence Type", `str`; Python Language Reference, "Basic customization").
-- The text of a tuple is a step, since its items are at hand; that of a list or a dict goes on through code, since the object may change. So what adds a part stands here in both forms.
use Rattle.std.specs.Prelude.{ℕ, suc, ◌+◌, ◌==◌, true, false, nat_lt, ℤ, pos, List, [], ◌∷◌, ◌++◌, drop, length, codes}
use Rattle.std.specs.List.{list_any}
use Rattle.std.specs.Ordering.{int_eq}
use Rattle.rp_base.specs.declared.exceptions.Beyond.TheVariants as beyond
use Rattle.rp_base.specs.declared.plain.Plain.TheVariants as plain
use Rattle.rp_base.specs.declared.value.Value.{Value}
use Rattle.rp_base.specs.declared.value.Value.TheOpen.{Value-F}
use Rattle.rp_base.specs.declared.value.Value.TheVariants as value
use Rattle.rp_base.specs.Values.{gather_value, heaviest_value}
use Rattle.py_plain.specs.Printing.{repr_of, str_of}
use Rattle.py_plain.specs.Putting.{separator}
use Rattle.py_store.specs.declared.cell.Cell.{Cell}
use Rattle.py_store.specs.declared.cell.Cell.TheVariants as cell
use Rattle.py_store.specs.EntryLists.{EntryList}
use Rattle.object_operations.specs.declared.operation.Operation.TheVariants as operation
use Rattle.side_trees.specs.Trees.{Return, Stop, bind}
use Rattle.language_rules.specs.Codes.{Completion, Gives, Then, ListText, DictText, Step, Ends, Leaves, Asks}
use Rattle.language_rules.specs.States.{State}
use Rattle.language_rules.specs.Going.{RuleTree, text, nowhere, type_error, looks, changes, reads_cell, operates, carry, and_value, asked_step}
use Rattle.language_rules.specs.Attributes.{calls_method}
use Rattle.language_rules.specs.Truth.{nowhere_step}
use Rattle.language_rules.specs.Searching.{reads_list, reads_dict}

-- ---- texts as ends

abbrev pub on_text_value : (List ℕ → RuleTree) → Value → RuleTree
on_text_value f (value.Plain (plain.Text t)) = f t
on_text_value f _ = nowhere

abbrev pub on_text : (List ℕ → RuleTree) → Completion → RuleTree
on_text f (Gives v) = on_text_value f v
on_text f a = Return a

abbrev pub text_value_step : (List ℕ → Step) → Value → Step
text_value_step f (value.Plain (plain.Text t)) = f t
text_value_step f _ = nowhere_step

abbrev pub and_text : Step → (List ℕ → Step) → Step
and_text t f = and_value t (text_value_step f)

-- ---- parts of a text that is printed

-- a text that is made is judged: it weighs one more than its bytes
abbrev pub made_step : List ℕ → (List ℕ → Step) → Step
made_step t f = elim (nat_lt heaviest_value (1 + length t)) [ true ↦ Leaves beyond.Size | false ↦ f t ]

-- a part is added to what was printed
abbrev pub adds_step : List ℕ → List ℕ → (List ℕ → Step) → Step
adds_step printed part f = made_step (printed ++ part) f

abbrev pub text_ends : List ℕ → Step
text_ends t = Ends (Gives (text t))

-- ---- a tuple that holds a reference: brackets, separators and the text of each item in written order, each judged before the next is asked

-- the text of an item, and then what is added behind it
abbrev pub item_step : Step → List ℕ → (List ℕ → Step) → Step
item_step s printed f = and_text s (λ t. adds_step printed t f)

-- the items behind the first, and the end
abbrev pub further_items_step : List Step → List ℕ → Step
further_items_step [] printed = adds_step printed (codes ")") text_ends
further_items_step (s ∷ ss) printed = adds_step printed (codes ", ") (λ t. item_step s t (further_items_step ss))

-- a single item is followed by a comma
abbrev pub tuple_text_step : List Step → Step
tuple_text_step [] = text_ends (codes "()")
tuple_text_step (s ∷ []) = item_step s (codes "(") (λ t. adds_step t (codes ",)") text_ends)
tuple_text_step (s ∷ ss) = item_step s (codes "(") (further_items_step ss)

-- ---- the texts of values

-- a plain value as Python writes it; a tuple is a printed text of its own; a reference is asked
abbrev pub repr_layer : Value-F Step → Step
repr_layer (Value-F.Plain p) = made_step (repr_of p) text_ends
repr_layer (Value-F.Tuple ss) = tuple_text_step ss
repr_layer (Value-F.Own n) = asked_step (operation.Repr (value.Own n))
repr_layer (Value-F.Proxy id) = asked_step (operation.Repr (value.Proxy id))

unfoldable pub repr_step : Value → Step
repr_step = gather_value Step repr_layer

-- the str of a tuple is its repr
abbrev pub str_step : Value → Step
str_step (value.Plain p) = made_step (str_of p) text_ends
str_step (value.Own n) = asked_step (operation.Str (value.Own n))
str_step (value.Proxy id) = asked_step (operation.Str (value.Proxy id))
str_step v = repr_step v

abbrev pub on_repr : Value → (List ℕ → RuleTree) → RuleTree
on_repr v f = bind (carry (repr_step v)) (on_text f)

abbrev pub on_str : Value → (List ℕ → RuleTree) → RuleTree
on_str v f = bind (carry (str_step v)) (on_text f)

-- ---- the printing of lists and dicts that is under way

abbrev pub begins_printing : ℕ → State → State
begins_printing n s = record s { printing = n ∷ s.printing }

abbrev pub ends_printing : State → State
ends_printing s = record s { printing = drop 1 s.printing }

-- The printing of a list or dict, which is under way until it ends, by a text or by an exception. One that is under way is not printed again.
abbrev pub prints_cell : ℕ → RuleTree → RuleTree
prints_cell n t = looks (λ s. elim (list_any (λ m. m == n) s.printing) [
  | true ↦ Stop beyond.CyclicRepr
  | false ↦ changes (begins_printing n) (bind t (λ a. changes ends_printing (Return a)))
])

-- a part is added to what was printed, and judged before what follows it is asked
abbrev pub adds_part : List ℕ → List ℕ → (List ℕ → RuleTree) → RuleTree
adds_part printed part f = elim (nat_lt heaviest_value (1 + length (printed ++ part))) [ true ↦ Stop beyond.Size | false ↦ f (printed ++ part) ]

abbrev pub gives_text : List ℕ → RuleTree
gives_text t = Return (Gives (text t))

-- ---- a list: position by position, as long as one is below the length that it then has

-- From a position on: the items from there. While nothing is asked they stay as they are.
abbrev pub prints_items : ℕ → ℕ → List ℕ → List Value → RuleTree
prints_items n i printed [] = adds_part printed (codes "]") gives_text
prints_items n i printed (v ∷ vs) = adds_part printed (separator i) (λ before. elim (repr_step v) [
  | Ends a ↦ on_text (λ t. adds_part before t (λ after. prints_items n (suc i) after vs)) a
  | Leaves b ↦ Stop b
  | Asks o c ↦ operates o (λ a. Then (c a) (λ r. ListText n i before r)) (λ a. Return a)
])

-- the printing from the text of the item at a position on
abbrev pub list_text_rule : ℕ → ℕ → List ℕ → Completion → RuleTree
list_text_rule n i printed a = on_text (λ t. adds_part printed t (λ after. reads_list n (λ items. prints_items n (suc i) after (drop (suc i) items)))) a

-- ---- a dict: entry by entry, with its keys as they were

abbrev pub prints_entries : ℕ → ℕ → ℕ → List ℕ → EntryList → RuleTree
prints_entries n shape i printed [] = adds_part printed (codes "}") gives_text
prints_entries n shape i printed (e ∷ es) =
    adds_part printed (separator i) (λ front.
    adds_part front (repr_of e.0) (λ key.
    adds_part key (codes ": ") (λ before. elim (repr_step e.1) [
      | Ends a ↦ on_text (λ t. adds_part before t (λ after. prints_entries n shape (suc i) after es)) a
      | Leaves b ↦ Stop b
      | Asks o c ↦ operates o (λ a. Then (c a) (λ r. DictText n shape i before r)) (λ a. Return a)
    ])))

-- The printing from the text of the value at a place on: where keys came or went, that is judged before the text is added.
abbrev pub dict_text_rule : ℕ → ℕ → ℕ → List ℕ → Completion → RuleTree
dict_text_rule n shape i printed a = on_text (λ t. reads_dict n (λ entries now. elim (now == shape) [
  | true ↦ adds_part printed t (λ after. prints_entries n shape (suc i) after (drop (suc i) entries))
  | false ↦ Stop beyond.Changed
])) a

-- ---- a range

abbrev pub number_text : ℤ → List ℕ
number_text z = repr_of (plain.Int z)

abbrev pub range_text : ℤ → ℤ → ℤ → List ℕ
range_text start stop step = codes "range(" ++ number_text start ++ codes ", " ++ number_text stop ++ elim (int_eq step (pos 1)) [ true ↦ codes ")" | false ↦ codes ", " ++ number_text step ++ codes ")" ]

-- ---- an instance: a method of its class, which must give a text

abbrev pub text_result : Value → RuleTree
text_result (value.Plain (plain.Text t)) = gives_text t
text_result _ = type_error (codes "wrong result kind")

-- `__repr__`; without it the text would show an address
abbrev pub instance_repr : ℕ → RuleTree
instance_repr n = calls_method n (codes "__repr__") [] text_result (Stop beyond.Address)

-- `__str__`, or else `__repr__`
abbrev pub instance_str : ℕ → RuleTree
instance_str n = calls_method n (codes "__str__") [] text_result (instance_repr n)

-- ---- the operations

abbrev pub repr_of_cell : ℕ → Cell → RuleTree
repr_of_cell n (cell.List items) = prints_cell n (prints_items n 0 (codes "[") items)
repr_of_cell n (cell.Dict entries shape) = prints_cell n (prints_entries n shape 0 (codes "{") entries)
repr_of_cell n (cell.Range start stop step) = gives_text (range_text start stop step)
repr_of_cell n (cell.Instance class_no attributes) = instance_repr n
repr_of_cell n (cell.Namespace names reserved) = Stop beyond.Namespace
repr_of_cell n _ = Stop beyond.Address

abbrev pub cell_repr : ℕ → RuleTree
cell_repr n = reads_cell n (repr_of_cell n)

-- only instances have a `str` of their own
abbrev pub str_of_cell : ℕ → Cell → RuleTree
str_of_cell n (cell.Instance class_no attributes) = instance_str n
str_of_cell n c = repr_of_cell n c

abbrev pub cell_str : ℕ → RuleTree
cell_str n = reads_cell n (str_of_cell n)
