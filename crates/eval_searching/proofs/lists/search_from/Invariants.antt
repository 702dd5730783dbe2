use Rattle.std.proofs.Common.{◌≡◌, ◌-◌, ℕ, drop, length}
use Rattle.language_rules.specs.Searching.{searches_from}
use Rattle.eval_searching.proofs.lists.search_from.Given as goal

abbrev pub invariant-items : goal.invariant-items
invariant-items l = (n : ℕ) → searches_from n l.start l.wanted (drop l.start l.items) ≡ searches_from n l.at l.wanted (drop l.at l.items)

abbrev pub decreases-items : goal.decreases-items
decreases-items l = length l.items - l.at
