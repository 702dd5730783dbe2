use Rattle.std.proofs.Common.{◌≡◌, ◌-◌, ℕ, drop, length, string_bytes}
use Rattle.language_rules.specs.Printing.{prints_items}
use Rattle.eval_texts.proofs.lists.put_items.Given as goal

abbrev pub invariant-items : goal.invariant-items
invariant-items l = (n : ℕ) → prints_items n l.start (string_bytes l.fn.made) (drop l.start l.items) ≡ prints_items n l.at (string_bytes l.made) (drop l.at l.items)

abbrev pub decreases-items : goal.decreases-items
decreases-items l = length l.items - l.at
