-- Searching for a value in the items of a tuple, of a list and in the values of a dict (Python Language Reference, "Membership test operations").
use Rattle.std.specs.Prelude.{ℕ, suc, ◌==◌, if◌then◌else◌, true, false, pos, List, [], ◌∷◌, drop, map}
use Rattle.rp_base.specs.declared.exceptions.Beyond.TheVariants as beyond
use Rattle.rp_base.specs.declared.plain.Plain.TheVariants as plain
use Rattle.rp_base.specs.declared.value.Value.{Value}
use Rattle.rp_base.specs.declared.value.Value.TheVariants as value
use Rattle.py_store.specs.declared.cell.Cell.{Cell}
use Rattle.py_store.specs.declared.cell.Cell.TheVariants as cell
use Rattle.py_store.specs.EntryLists.{EntryList}
use Rattle.side_trees.specs.Trees.{Return, Stop}
use Rattle.language_rules.specs.Codes.{Completion, Gives, Then, SearchNext, ValuesNext, Step, Ends, Leaves, Asks}
use Rattle.language_rules.specs.Going.{RuleTree, none, nowhere, reads_cell, operates}
use Rattle.language_rules.specs.Truth.{tells, and_bool, on_bool}
use Rattle.language_rules.specs.Comparing.{found_step}

-- ---- lists and dicts as they are now

abbrev pub on_list : (List Value → RuleTree) → Cell → RuleTree
on_list f (cell.List items) = f items
on_list f _ = nowhere

abbrev pub reads_list : ℕ → (List Value → RuleTree) → RuleTree
reads_list n f = reads_cell n (on_list f)

abbrev pub on_dict : (EntryList → ℕ → RuleTree) → Cell → RuleTree
on_dict f (cell.Dict entries shape) = f entries shape
on_dict f _ = nowhere

abbrev pub reads_dict : ℕ → (EntryList → ℕ → RuleTree) → RuleTree
reads_dict n f = reads_cell n (on_dict f)

-- the position is the answer
abbrev pub gives_position : ℕ → RuleTree
gives_position i = Return (Gives (value.Plain (plain.Int (pos i))))

-- ---- a tuple

-- whether x is found in one of these items, in turn
abbrev pub search_tuple_step : List Value → Value → Step
search_tuple_step [] x = tells false
search_tuple_step (e ∷ es) x = and_bool (found_step x e) (λ b. elim b [ true ↦ tells true | false ↦ search_tuple_step es x ])

-- ---- a list: position by position, as long as one is below the length that it then has

-- From a position on: the items from there. While nothing is asked they stay as they are.
abbrev pub searches_from : ℕ → ℕ → Value → List Value → RuleTree
searches_from n i x [] = Return (Gives none)
searches_from n i x (e ∷ es) = elim (found_step x e) [
  | Ends a ↦ on_bool (λ b. elim b [ true ↦ gives_position i | false ↦ searches_from n (suc i) x es ]) a
  | Leaves b ↦ Stop b
  | Asks o c ↦ operates o (λ a. Then (c a) (λ r. SearchNext n i x r)) (λ a. Return a)
]

-- the first position at which x is found, or None
abbrev pub searches_list : ℕ → Value → RuleTree
searches_list n x = reads_list n (searches_from n 0 x)

-- the search from what was found at a position on
abbrev pub search_rule : ℕ → ℕ → Value → Completion → RuleTree
search_rule n i x a = on_bool (λ b. elim b [ true ↦ gives_position i | false ↦ reads_list n (λ items. searches_from n (suc i) x (drop (suc i) items)) ]) a

-- ---- the values of a dict, in the same way, as long as its keys stay as they are

abbrev pub values_from : ℕ → ℕ → ℕ → Value → List Value → RuleTree
values_from n shape i x [] = Return (Gives none)
values_from n shape i x (e ∷ es) = elim (found_step x e) [
  | Ends a ↦ on_bool (λ b. elim b [ true ↦ gives_position i | false ↦ values_from n shape (suc i) x es ]) a
  | Leaves b ↦ Stop b
  | Asks o c ↦ operates o (λ a. Then (c a) (λ r. ValuesNext n shape i x r)) (λ a. Return a)
]

-- the values of entries
abbrev pub values_of : EntryList → List Value
values_of entries = map (λ e. e.1) entries

-- the place of the first entry in whose value x is found, or None
abbrev pub searches_values : ℕ → Value → RuleTree
searches_values n x = reads_dict n (λ entries shape. values_from n shape 0 x (values_of entries))

-- on with the values behind a position, where no key has come or gone
abbrev pub values_behind : ℕ → ℕ → ℕ → Value → RuleTree
values_behind n shape i x = reads_dict n (λ entries now. if now == shape then values_from n shape (suc i) x (drop (suc i) (values_of entries)) else Stop beyond.Changed)

abbrev pub values_rule : ℕ → ℕ → ℕ → Value → Completion → RuleTree
values_rule n shape i x a = on_bool (λ b. elim b [ true ↦ gives_position i | false ↦ values_behind n shape i x ]) a
