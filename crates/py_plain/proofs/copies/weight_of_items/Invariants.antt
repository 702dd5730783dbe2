use Rattle.std.proofs.Common.{◌≡◌, ◌-◌, ◌^◌, min, take, map, sum}
use Rattle.rp_base.specs.PlainValues.{plain_weight}
use Rattle.py_plain.proofs.copies.weight_of_items.Given as goal

abbrev pub invariant-loop-item : goal.invariant-loop-item
invariant-loop-item l = l.sum ≡ min (sum (map plain_weight (take l.item-index l.items))) (2 ^ 64 - 1)
