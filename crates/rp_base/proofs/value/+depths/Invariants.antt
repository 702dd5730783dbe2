use Rattle.std.proofs.Common.{◌≡◌, ◌-◌, ◌^◌, min, max, take, map, fold}
use Rattle.rp_base.specs.Values.{depth_of}
use Rattle.rp_base.proofs.value.+depths.Given as goal

abbrev pub invariant-depth_all-loop-item : goal.invariant-depth_all-loop-item
invariant-depth_all-loop-item l = l.deepest ≡ min (fold max 0 (map depth_of (take l.item-index l.items))) (2 ^ 32 - 1)
