-- `__len__` and `__bool__` of objects (Python Language Reference, "Emulating container types" and "Basic customization"; Python Library Reference, "Truth Value Testing").
use Rattle.std.specs.Prelude.{ℕ, ◌^◌, true, nat_lt, ℤ, pos, negsuc, [], length, codes, Option, Some, None, if◌then◌else◌}
use Rattle.rp_base.specs.declared.exceptions.Beyond.TheVariants as beyond
use Rattle.rp_base.specs.declared.exceptions.ExcKind.TheVariants as exception
use Rattle.rp_base.specs.declared.plain.Plain.TheVariants as plain
use Rattle.rp_base.specs.declared.value.Value.{Value}
use Rattle.rp_base.specs.declared.value.Value.TheVariants as value
use Rattle.object_operations.specs.declared.special.Special.TheVariants as special
use Rattle.object_operations.specs.Names.{special_name}
use Rattle.py_store.specs.declared.cell.Cell.{Cell}
use Rattle.py_store.specs.declared.cell.Cell.TheVariants as cell
use Rattle.side_trees.specs.Trees.{Stop}
use Rattle.language_rules.specs.Answers.{gives}
use Rattle.language_rules.specs.Attributes.{calls_method}
use Rattle.language_rules.specs.Going.{RuleTree, boolean, fails, type_error}
use Rattle.language_rules.specs.PlainItems.{number, no_length}
use Rattle.language_rules.specs.Ranges.{range_length}
use Rattle.language_rules.specs.Searching.{reads_dict}
use Rattle.language_rules.specs.TextFunctions.{as_int}

-- a special method gave what it may not give
abbrev pub wrong_result : RuleTree
wrong_result = type_error (codes "wrong result kind")

-- ---- length

-- a length of at most 63 bits
abbrev pub within_lengths : ℕ → (ℕ → RuleTree) → RuleTree
within_lengths n f = if nat_lt n (2 ^ 63) then f n else Stop beyond.Int

-- a length as an int
abbrev pub gives_length : ℕ → RuleTree
gives_length n = within_lengths n (λ m. gives (number m))

-- on with the length that a method `__len__` gave: an int from 0 on, where a bool counts as one
abbrev pub on_counted : (ℕ → RuleTree) → Option ℤ → RuleTree
on_counted f (Some (pos n)) = within_lengths n f
on_counted f (Some (negsuc n)) = fails exception.ValueError (codes "negative length")
on_counted f None = wrong_result

-- the same, by the value that the method gave
abbrev pub on_length : (ℕ → RuleTree) → Value → RuleTree
on_length f v = on_counted f (as_int v)

-- `__len__`: a view is as long as its dict
abbrev pub length_rule : ℕ → Cell → RuleTree
length_rule n (cell.List items) = gives_length (length items)
length_rule n (cell.Dict entries shape) = gives_length (length entries)
length_rule n (cell.View dict which) = reads_dict dict (λ entries shape. gives_length (length entries))
length_rule n (cell.Range start stop step) = gives_length (range_length start stop step)
length_rule n (cell.Instance class_no attributes) = calls_method n (special_name special.Len) [] (on_length (λ m. gives (number m))) no_length
length_rule n (cell.Namespace names reserved) = Stop beyond.Namespace
length_rule n _ = no_length

-- ---- truth

-- what has items is true
abbrev pub gives_filled : ℕ → RuleTree
gives_filled n = gives (boolean (nat_lt 0 n))

-- what a method `__bool__` gave
abbrev pub gives_truth : Value → RuleTree
gives_truth (value.Plain (plain.Bool b)) = gives (boolean b)
gives_truth _ = wrong_result

-- `__bool__`: an instance without that method is true by its length, and one without `__len__` too is true
abbrev pub truth_rule : ℕ → Cell → RuleTree
truth_rule n (cell.List items) = gives_filled (length items)
truth_rule n (cell.Dict entries shape) = gives_filled (length entries)
truth_rule n (cell.View dict which) = reads_dict dict (λ entries shape. gives_filled (length entries))
truth_rule n (cell.Range start stop step) = gives_filled (range_length start stop step)
truth_rule n (cell.Instance class_no attributes) =
    calls_method n (special_name special.Bool) [] gives_truth
    (calls_method n (special_name special.Len) [] (on_length gives_filled) (gives (boolean true)))
truth_rule n (cell.Namespace names reserved) = Stop beyond.Namespace
truth_rule n _ = gives (boolean true)
