use Rattle.std.proofs.Common.{◌≡◌, ◌++◌, drop, option_map}
use Rattle.rp_base.specs.Values.{plains_of}
use Rattle.rp_base.proofs.value.+plains.Given as goal

-- what was made, and then what is left
abbrev pub invariant-to_plains-loop-item : goal.invariant-to_plains-loop-item
invariant-to_plains-loop-item l = plains_of l.items ≡ option_map (λ ps. l.all ++ ps) (plains_of (drop l.item-index l.items))
