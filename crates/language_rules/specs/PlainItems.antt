-- Items, length and `in` of any value (Python Language Reference, "Subscriptions" and "Membership test operations"). Of an object they are asked; of any other value they cost no unit.
use Rattle.std.specs.Prelude.{ℕ, ℤ, pos, List, [], ◌∷◌, ◌++◌, length, slice_get, codes, is_some, Option, Some, None, if◌then◌else◌}
use Rattle.std.specs.Str.{chars}
use Rattle.rp_base.specs.declared.exceptions.Beyond.TheVariants as beyond
use Rattle.rp_base.specs.declared.exceptions.ExcKind.TheVariants as kind
use Rattle.rp_base.specs.declared.plain.Plain.TheVariants as plain
use Rattle.rp_base.specs.declared.value.Value.{Value}
use Rattle.rp_base.specs.declared.value.Value.TheVariants as value
use Rattle.object_operations.specs.declared.operation.Operation.TheVariants as operation
use Rattle.object_operations.specs.declared.special.Special.TheVariants as special
use Rattle.side_trees.specs.Trees.{Stop}
use Rattle.language_rules.specs.Answers.{gives, asked}
use Rattle.language_rules.specs.Comparing.{tuple_items}
use Rattle.language_rules.specs.Draining.{items_at_hand, not_iterable}
use Rattle.language_rules.specs.Going.{RuleTree, boolean, fails, type_error, carry}
use Rattle.language_rules.specs.Kinds.{is_reference}
use Rattle.language_rules.specs.Searching.{search_tuple_step}
use Rattle.language_rules.specs.TextFunctions.{least_place, as_int, place_among}

-- ---- exceptions, and ints

-- an index that names no item of a value of this name
abbrev pub out_of_range : List ℕ → RuleTree
out_of_range name = fails kind.IndexError (name ++ codes " index out of range")

-- what has no items, and what has no length
abbrev pub no_items : RuleTree
no_items = type_error (codes "no items")

abbrev pub no_length : RuleTree
no_length = type_error (codes "no length")

-- a number as an int
abbrev pub number : ℕ → Value
number n = value.Plain (plain.Int (pos n))

-- ---- items by position

-- on with the int that an index is, where a bool counts as one
abbrev pub on_index : (ℤ → RuleTree) → Option ℤ → RuleTree
on_index f (Some n) = f n
on_index f None = type_error (codes "index is no integer")

-- the item at a place
abbrev pub item_at : List Value → Option ℕ → Option Value
item_at items (Some k) = slice_get items k
item_at items None = None

-- the item, where there is one
abbrev pub gives_item : List ℕ → Option Value → RuleTree
gives_item name (Some v) = gives v
gives_item name None = out_of_range name

-- the item of a sequence of this name at an index; a negative one counts from the end
abbrev pub gives_item_of : List ℕ → List Value → Value → RuleTree
gives_item_of name items key = on_index (λ n. gives_item name (item_at items (place_among (length items) n))) (as_int key)

-- what an IndexError calls a value with items
abbrev pub sequence_name : Value → List ℕ
sequence_name (value.Plain (plain.Text t)) = codes "text"
sequence_name (value.Plain (plain.Bytes b)) = codes "bytes"
sequence_name _ = codes "tuple"

-- `v[key]` of what is no reference: texts, byte strings and tuples have items
abbrev pub item_within : List ℕ → Value → Option (List Value) → RuleTree
item_within name key (Some items) = gives_item_of name items key
item_within name key None = no_items

-- `v[key]`
unfoldable pub item_of : Value → Value → RuleTree
item_of v key =
    if is_reference v then asked (operation.Special v special.GetItem (key ∷ []))
    else item_within (sequence_name v) key (items_at_hand v)

-- ---- length

-- `len(v)` of what is no reference
abbrev pub length_within : Option (List Value) → RuleTree
length_within (Some items) = gives (number (length items))
length_within None = no_length

-- `len(v)`
abbrev pub length_of : Value → RuleTree
length_of v = if is_reference v then asked (operation.Special v special.Len []) else length_within (items_at_hand v)

-- ---- membership

-- a text is in a text where it stands at some place
abbrev pub text_contains : List ℕ → Value → RuleTree
text_contains t (value.Plain (plain.Text part)) = gives (boolean (is_some (least_place (chars t) (chars part))))
text_contains t x = type_error (codes "text expected")

-- in a tuple, which is searched
abbrev pub tuple_contains : Value → Option (List Value) → RuleTree
tuple_contains x (Some items) = carry (search_tuple_step items x)
tuple_contains x None = not_iterable

-- `x in v` of what is no reference
abbrev pub contains_within : Value → Value → RuleTree
contains_within (value.Plain (plain.Text t)) x = text_contains t x
contains_within (value.Plain (plain.Bytes b)) x = Stop beyond.Compare
contains_within v x = tuple_contains x (tuple_items v)

-- `x in v`
abbrev pub contains_in : Value → Value → RuleTree
contains_in v x =
    if is_reference v then asked (operation.Special v special.Contains (x ∷ []))
    else contains_within v x
