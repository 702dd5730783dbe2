use Rattle.std.proofs.Common.{◌≡◌, ◌++◌, drop, option_map}
use Rattle.language_rules.specs.Ordering.{all_ints}
use Rattle.builtin_functions.proofs.sums.all_ints.Given as goal

-- what was made, and then what is left
abbrev pub invariant-loop-item : goal.invariant-loop-item
invariant-loop-item l = all_ints l.items ≡ option_map (λ zs. l.all.items ++ zs) (all_ints (drop l.item-index l.items))
