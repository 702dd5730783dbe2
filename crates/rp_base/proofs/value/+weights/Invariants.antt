use Rattle.std.proofs.Common.{◌≡◌, ◌+◌, ◌-◌, ◌^◌, min, take, map, sum}
use Rattle.rp_base.specs.Values.{weight_of}
use Rattle.rp_base.proofs.value.+weights.Given as goal

abbrev pub invariant-weight_all-loop-item : goal.invariant-weight_all-loop-item
invariant-weight_all-loop-item l = l.sum ≡ min (1 + sum (map weight_of (take l.item-index l.items))) (2 ^ 64 - 1)
