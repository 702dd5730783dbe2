use Rattle.std.proofs.Common.{◌≡◌, ◌≤◌, ◌+◌, ◌-◌, length, drop, option_map}
use Rattle.py_lexer.specs.Literals.{literal_size}
use Rattle.py_lexer.proofs.literal.literal_size.Given as goal

abbrev pub invariant-items : goal.invariant-items
invariant-items l = (l.opening ≤ l.at) × (option_map (λ n. l.opening + n) (literal_size l.quote l.is_bytes 0 (drop l.opening l.rest)) ≡ option_map (λ n. l.at + n) (literal_size l.quote l.is_bytes 0 (drop l.at l.rest)))

abbrev pub decreases-items : goal.decreases-items
decreases-items l = length l.rest - l.at
