use Rattle.std.proofs.Common.{◌≡◌, ◌-◌, ℕ, drop, length, string_bytes}
use Rattle.language_rules.specs.Printing.{prints_entries}
use Rattle.eval_texts.proofs.dicts.put_entries.Given as goal

abbrev pub invariant-entries : goal.invariant-entries
invariant-entries l = (n shape : ℕ) → prints_entries n shape l.start (string_bytes l.fn.made) (drop l.start l.entries) ≡ prints_entries n shape l.at (string_bytes l.made) (drop l.at l.entries)

abbrev pub decreases-entries : goal.decreases-entries
decreases-entries l = length l.entries - l.at
