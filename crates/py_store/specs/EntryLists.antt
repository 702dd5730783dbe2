-- The entries of a dict: keys with their values, in the order in which the keys came (Python Library Reference, "Mapping Types").
use Rattle.std.specs.Prelude.{ℕ, List, Option, position}
use Rattle.std.specs.List.{IsDistinct}
use Rattle.std.specs.Map.{keys_of, lookup, remove_entry}
use Rattle.indexmap.specs.IndexMap.{insert_entry}
use Rattle.rp_base.specs.declared.plain.Plain.{Plain}
use Rattle.rp_base.specs.declared.value.Value.{Value}
use Rattle.rp_base.specs.PlainValues.{equal_to}

abbrev pub EntryList : Type 0
EntryList = List (Plain × Value)

-- no two keys are equal
abbrev pub AreUnequal : EntryList → Type 0
AreUnequal entries = IsDistinct equal_to (keys_of entries)

-- the place of the key that equals this one
abbrev pub entry_place : Plain → EntryList → Option ℕ
entry_place key entries = position (equal_to key) (keys_of entries)

-- the value beside the key that equals this one
abbrev pub entry_value : Plain → EntryList → Option Value
entry_value key entries = lookup (equal_to key) entries

-- an equal key keeps its spelling and its place, and a new one goes last
abbrev pub with_entry : Plain → Value → EntryList → EntryList
with_entry key value entries = insert_entry equal_to entries key value

-- without the key that equals this one, and the others keep their order
abbrev pub without_entry : Plain → EntryList → EntryList
without_entry key entries = remove_entry (equal_to key) entries
