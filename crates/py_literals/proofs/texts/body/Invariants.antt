use Rattle.std.proofs.Common.{◌≡◌, ◌++◌, ◌-◌, length, drop, option_map}
use Rattle.py_literals.specs.Values.{body_value}
use Rattle.py_literals.proofs.texts.body.Given as goal

-- what was read, and then what the rest stands for
abbrev pub invariant-items : goal.invariant-items
invariant-items l = body_value l.is_bytes l.quote l.rest ≡ option_map (λ v. l.value.items ++ v) (body_value l.is_bytes l.quote (drop l.at l.rest))

abbrev pub decreases-items : goal.decreases-items
decreases-items l = length l.rest - l.at
