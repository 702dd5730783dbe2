use Rattle.std.proofs.Common.{◌≡◌, ◌+◌, ◌-◌, ◌^◌, min, take, map, sum}
use Rattle.rp_base.specs.PlainValues.{plain_weight}
use Rattle.rp_base.proofs.plain.+weights.Given as goal

abbrev pub invariant-weight_all-loop-item : goal.invariant-weight_all-loop-item
invariant-weight_all-loop-item l = l.sum ≡ min (1 + sum (map plain_weight (take l.item-index l.items))) (2 ^ 64 - 1)
