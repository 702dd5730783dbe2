use Rattle.std.proofs.Common.{◌≡◌, ◌-◌, ℕ, drop, length}
use Rattle.language_rules.specs.Searching.{values_from, values_of}
use Rattle.eval_searching.proofs.values.search_values_from.Given as goal

abbrev pub invariant-entries : goal.invariant-entries
invariant-entries l = (n shape : ℕ) → values_from n shape l.start l.wanted (drop l.start (values_of l.entries)) ≡ values_from n shape l.at l.wanted (drop l.at (values_of l.entries))

abbrev pub decreases-entries : goal.decreases-entries
decreases-entries l = length l.entries - l.at
