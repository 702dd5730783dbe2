use Rattle.std.proofs.Common.{◌≡◌, ◌++◌, drop, option_map}
use Rattle.rp_base.specs.Values.{plains_of}
use Rattle.item_sorting.proofs.items.plains_of.Given as goal

-- what was made, and then what is left
abbrev pub invariant-loop-item : goal.invariant-loop-item
invariant-loop-item l = plains_of l.items ≡ option_map (λ ps. l.all.items ++ ps) (plains_of (drop l.item-index l.items))
