use Rattle.std.proofs.Common.{◌≡◌, ◌-◌, ◌^◌, min, take, map, sum}
use Rattle.rp_base.specs.Values.{weight_of}
use Rattle.value_operators.proofs.tuples.weight_of_items.Given as goal

abbrev pub invariant-loop-item : goal.invariant-loop-item
invariant-loop-item l = l.sum ≡ min (sum (map weight_of (take l.item-index l.items))) (2 ^ 64 - 1)
