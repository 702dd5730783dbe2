-- What dicts and ranges are made of.
use Rattle.std.specs.Prelude.{◌≡◌, ℤ, Bool, true, false, List, Option, Some, None}
use Rattle.rp_base.specs.declared.plain.Plain.{Plain}
use Rattle.rp_base.specs.declared.plain.Plain.TheVariants as plain
use Rattle.rp_base.specs.declared.value.Value.{Value}
use Rattle.rp_base.specs.declared.value.Value.TheVariants as value
use Rattle.py_store.specs.EntryLists.{EntryList}
use Rattle.language_rules.specs.Displays.{entries_with}

-- the plain value that a value is
abbrev pub plain_of : Value → Option Plain
plain_of (value.Plain p) = Some p
plain_of _ = None

-- the first entry of those that wait was put among the entries, and the others wait; or there are no such entries
abbrev pub IsPut : EntryList → List Value → Bool → EntryList → List Value → Type 0
IsPut before waiting true now others = entries_with before waiting ≡ entries_with now others
IsPut before waiting false now others = entries_with before waiting ≡ None

-- the int that a value is
abbrev pub the_int : Value → Option ℤ
the_int (value.Plain (plain.Int z)) = Some z
the_int _ = None
