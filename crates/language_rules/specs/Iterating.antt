-- `__iter__` and `__next__` (Python Language Reference, "Emulating container types"; Python Library Reference, "Iterator Types").
use Rattle.std.specs.Prelude.{ℕ, ◌==◌, nat_lt, ℤ, List, [], ◌∷◌, slice_get, Option, Some, None, Result, Ok, if◌then◌else◌}
use Rattle.rp_base.specs.declared.ends.TupleEnd.{TupleEnd}
use Rattle.rp_base.specs.declared.exceptions.Beyond.TheVariants as beyond
use Rattle.rp_base.specs.declared.exceptions.ExcKind.TheVariants as exception
use Rattle.rp_base.specs.declared.identity.Kind.{Kind}
use Rattle.rp_base.specs.declared.identity.Kind.TheVariants as kind
use Rattle.rp_base.specs.declared.plain.Plain.{Plain}
use Rattle.rp_base.specs.declared.plain.Plain.TheVariants as plain
use Rattle.rp_base.specs.declared.value.Value.{Value}
use Rattle.rp_base.specs.declared.value.Value.TheVariants as value
use Rattle.rp_base.specs.Values.{tuple_of}
use Rattle.object_operations.specs.declared.special.Special.TheVariants as special
use Rattle.object_operations.specs.Names.{special_name}
use Rattle.py_store.specs.declared.cell.Cell.{Cell}
use Rattle.py_store.specs.declared.cell.Cell.TheVariants as cell
use Rattle.py_store.specs.declared.cell.Which.{Which}
use Rattle.py_store.specs.declared.cell.Which.TheVariants as view
use Rattle.side_trees.specs.Trees.{Stop}
use Rattle.language_rules.specs.Answers.{gives, on_tuple}
use Rattle.language_rules.specs.Attributes.{calls_method, by_method}
use Rattle.language_rules.specs.Draining.{items_at_hand, not_iterable}
use Rattle.language_rules.specs.Entries.{one_more}
use Rattle.language_rules.specs.Going.{RuleTree, nowhere, raises, reads_cell, sets_cell, gives_new}
use Rattle.language_rules.specs.Kinds.{on_kind}
use Rattle.language_rules.specs.Lengths.{wrong_result}
use Rattle.language_rules.specs.Ranges.{range_length, range_item}

-- ---- an iterator over a collection

-- a new iterator; shape is that of the dict that it goes over, and 0 where it goes over none
abbrev pub starts : ℕ → Value → RuleTree
starts shape source = gives_new (cell.Iter (Some source) 0 shape)

-- a new iterator over a view keeps the shape of its dict
abbrev pub starts_view : ℕ → Cell → RuleTree
starts_view n (cell.Dict entries shape) = starts shape (value.Own n)
starts_view n _ = nowhere

-- the method `__iter__` gives an instance or an iterator
abbrev pub gives_iterator : Value → Option Kind → RuleTree
gives_iterator v (Some kind.Instance) = gives v
gives_iterator v (Some kind.Iter) = gives v
gives_iterator v _ = wrong_result

-- Python would go over an instance without that method by its items
abbrev pub would_index : ℕ → RuleTree
would_index n = by_method n (special_name special.GetItem) (Stop beyond.Drain) not_iterable

-- `__iter__` of an object
abbrev pub iter_rule : ℕ → Cell → RuleTree
iter_rule n (cell.List items) = starts 0 (value.Own n)
iter_rule n (cell.Dict entries shape) = starts shape (value.Own n)
iter_rule n (cell.View dict which) = reads_cell dict (starts_view n)
iter_rule n (cell.Range start stop step) = starts 0 (value.Own n)
iter_rule n (cell.Iter source at shape) = gives (value.Own n)
iter_rule n (cell.Instance class_no attributes) = calls_method n (special_name special.Iter) [] (λ v. on_kind v (gives_iterator v)) (would_index n)
iter_rule n (cell.Namespace names reserved) = Stop beyond.Namespace
iter_rule n _ = not_iterable

-- `__iter__` of what is no reference: texts, byte strings and tuples
abbrev pub starts_sequence : Value → Option (List Value) → RuleTree
starts_sequence v (Some items) = starts 0 v
starts_sequence v None = not_iterable

-- by the items of the value
abbrev pub iter_plain_rule : Value → RuleTree
iter_plain_rule v = starts_sequence v (items_at_hand v)

-- ---- the next item

-- the iterator n stands behind this item of its source, or has come to its end and drops the source
abbrev pub advances : ℕ → Value → ℕ → ℕ → Option Value → RuleTree
advances n source at shape (Some item) = sets_cell n (cell.Iter (Some source) (one_more at) shape) (gives item)
advances n source at shape None = sets_cell n (cell.Iter None at shape) (raises exception.StopIteration [])

-- a dict has the keys that it had when the iterator was made
abbrev pub unchanged : ℕ → ℕ → RuleTree → RuleTree
unchanged shape now t = if shape == now then t else Stop beyond.Changed

-- the key, the value, or the tuple of both
abbrev pub shown_entry : Which → Plain × Value → Result Value TupleEnd
shown_entry view.Keys e = Ok (value.Plain e.0)
shown_entry view.Values e = Ok e.1
shown_entry view.Items e = tuple_of (value.Plain e.0 ∷ e.1 ∷ [])

-- on to the entry at the place, where there is one
abbrev pub advances_shown : ℕ → Value → ℕ → ℕ → Which → Option (Plain × Value) → RuleTree
advances_shown n source at shape which (Some e) = on_tuple (λ item. advances n source at shape (Some item)) (shown_entry which e)
advances_shown n source at shape which None = advances n source at shape None

-- the next entry of a view, from its dict as it is now
abbrev pub next_shown : ℕ → Value → ℕ → ℕ → Which → Cell → RuleTree
next_shown n source at shape which (cell.Dict entries now) = unchanged shape now (advances_shown n source at shape which (slice_get entries at))
next_shown n source at shape which _ = nowhere

-- the item of a range at a place
abbrev pub range_item_at : ℤ → ℤ → ℤ → ℕ → Option Value
range_item_at start stop step at = if nat_lt at (range_length start stop step) then Some (value.Plain (plain.Int (range_item start step at))) else None

-- the next item of a source as it is now; a dict gives its keys
abbrev pub next_of_cell : ℕ → Value → ℕ → ℕ → Cell → RuleTree
next_of_cell n source at shape (cell.List items) = advances n source at shape (slice_get items at)
next_of_cell n source at shape (cell.Dict entries now) = unchanged shape now (advances_shown n source at shape view.Keys (slice_get entries at))
next_of_cell n source at shape (cell.View dict which) = reads_cell dict (next_shown n source at shape which)
next_of_cell n source at shape (cell.Range start stop step) = advances n source at shape (range_item_at start stop step at)
next_of_cell n source at shape _ = nowhere

-- the next item of a text, a byte string or a tuple
abbrev pub next_of_sequence : ℕ → Value → ℕ → ℕ → Option (List Value) → RuleTree
next_of_sequence n source at shape (Some items) = advances n source at shape (slice_get items at)
next_of_sequence n source at shape None = nowhere

-- the next item, by what the source is
abbrev pub next_of : ℕ → ℕ → ℕ → Value → RuleTree
next_of n at shape (value.Own source) = reads_cell source (next_of_cell n (value.Own source) at shape)
next_of n at shape source = next_of_sequence n source at shape (items_at_hand source)

-- `__next__`
abbrev pub next_rule : ℕ → Cell → RuleTree
next_rule n (cell.Iter None at shape) = raises exception.StopIteration []
next_rule n (cell.Iter (Some source) at shape) = next_of n at shape source
next_rule n (cell.Instance class_no attributes) = calls_method n (special_name special.Next) [] gives not_iterable
next_rule n _ = not_iterable
