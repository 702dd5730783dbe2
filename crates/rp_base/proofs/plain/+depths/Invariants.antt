use Rattle.std.proofs.Common.{◌≡◌, ◌-◌, ◌^◌, min, max, take, map, fold}
use Rattle.rp_base.specs.PlainValues.{plain_depth}
use Rattle.rp_base.proofs.plain.+depths.Given as goal

abbrev pub invariant-depth_all-loop-item : goal.invariant-depth_all-loop-item
invariant-depth_all-loop-item l = l.deepest ≡ min (fold max 0 (map plain_depth (take l.item-index l.items))) (2 ^ 32 - 1)
