-- The keys of dicts and of a namespace (Python Language Reference, "Mappings"; Python Library Reference, "Mapping Types").
use Rattle.std.specs.Prelude.{ℕ, suc, ◌-◌, ◌^◌, min, Bool, ◌||◌, nat_lt, List, [], ◌∷◌, length, codes, is_some, Option, Some, None, if◌then◌else◌}
use Rattle.std.specs.Str.{bytes_eq}
use Rattle.rp_base.specs.declared.exceptions.Beyond.TheVariants as beyond
use Rattle.rp_base.specs.declared.exceptions.ExcKind.TheVariants as exception
use Rattle.rp_base.specs.declared.plain.Plain.{Plain}
use Rattle.rp_base.specs.declared.plain.Plain.TheVariants as plain
use Rattle.rp_base.specs.declared.value.Value.{Value}
use Rattle.rp_base.specs.declared.value.Value.TheVariants as value
use Rattle.py_ast.specs.Builtins.{builtins, first_named}
use Rattle.py_store.specs.declared.cell.Cell.TheVariants as cell
use Rattle.py_store.specs.EntryLists.{EntryList, entry_value, with_entry, without_entry}
use Rattle.side_trees.specs.Trees.{Stop}
use Rattle.language_rules.specs.Attributes.{is_private}
use Rattle.language_rules.specs.Draining.{most_items}
use Rattle.language_rules.specs.Exceptions.{exception_named}
use Rattle.language_rules.specs.Going.{RuleTree, raises, sets_cell}
use Rattle.language_rules.specs.Texts.{has_name}

-- ---- limits

-- a list has as many items as this, or a dict as many entries
abbrev pub within_items : ℕ → RuleTree → RuleTree
within_items n t = if nat_lt most_items n then Stop beyond.Size else t

-- one more, at most the greatest number of 64 bits
abbrev pub one_more : ℕ → ℕ
one_more n = min (suc n) (2 ^ 64 - 1)

-- ---- keys of a dict

-- a key that is missing
abbrev pub missing_key : Plain → RuleTree
missing_key key = raises exception.KeyError (key ∷ [])

-- on with a key, which is a plain value
abbrev pub on_key : (Plain → RuleTree) → Value → RuleTree
on_key f (value.Plain key) = f key
on_key f _ = Stop beyond.Key

-- the dict of this number gets a value under a key: a known key keeps its place and its spelling, and a new one changes the dict's shape
abbrev pub puts_by : ℕ → EntryList → ℕ → Plain → Value → RuleTree → Option Value → RuleTree
puts_by n entries shape key v t (Some old) = sets_cell n (cell.Dict (with_entry key v entries) shape) t
puts_by n entries shape key v t None = within_items (suc (length entries)) (sets_cell n (cell.Dict (with_entry key v entries) (one_more shape)) t)

-- the same, by what the dict has
abbrev pub puts_entry : ℕ → EntryList → ℕ → Plain → Value → RuleTree → RuleTree
puts_entry n entries shape key v t = puts_by n entries shape key v t (entry_value key entries)

-- the dict of this number loses a key that is there
abbrev pub takes_entry : ℕ → EntryList → ℕ → Plain → RuleTree → RuleTree
takes_entry n entries shape key t = sets_cell n (cell.Dict (without_entry key entries) (one_more shape)) t

-- by whether a key is there, and with its value
abbrev pub by_entry : (Value → RuleTree) → RuleTree → Option Value → RuleTree
by_entry f missing (Some v) = f v
by_entry f missing None = missing

-- ---- keys of a namespace

-- On with a key of a namespace, which is a name. A reserved one, and one that begins with two underscores, is outside the subset.
abbrev pub on_name : List (List ℕ) → (List ℕ → RuleTree) → Value → RuleTree
on_name reserved f (value.Plain (plain.Text name)) = if has_name name reserved || is_private name then Stop beyond.Name else f name
on_name reserved f _ = Stop beyond.Namespace

-- a name that the language has itself, which no text binds
abbrev pub is_builtin_name : List ℕ → Bool
is_builtin_name name = is_some (first_named builtins name) || is_some (exception_named name) || bytes_eq name (codes "NotImplemented")
