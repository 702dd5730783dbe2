-- A list that gets more items behind its own.
use Rattle.std.specs.Prelude.{◌+◌, ℕ, Bool, not, nat_lt, length, Option, Some, None, if◌then◌else◌}
use Rattle.rp_base.specs.declared.value.Value.{Value}
use Rattle.rp_base.specs.declared.value.Value.TheVariants as value
use Rattle.py_store.specs.declared.cell.Cell.{Cell}
use Rattle.py_store.specs.declared.cell.Cell.TheVariants as cell
use Rattle.language_rules.specs.Draining.{most_items}
use Rattle.language_rules.specs.Going.{none}

-- whether a list has room for so many items more, where the cell is one
abbrev pub room_of : ℕ → Option Cell → Option Bool
room_of more (Some (cell.List items)) = Some (not (nat_lt most_items (length items + more)))
room_of more _ = None

-- the list itself, or None
abbrev pub answer_of : ℕ → Bool → Value
answer_of list is_answer = if is_answer then value.Own list else none
