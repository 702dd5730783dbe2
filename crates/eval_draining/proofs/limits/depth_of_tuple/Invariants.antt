use Rattle.std.proofs.Common.{◌≡◌, ◌-◌, ◌^◌, min, max, take, map, fold}
use Rattle.rp_base.specs.Values.{depth_of}
use Rattle.eval_draining.proofs.limits.depth_of_tuple.Given as goal

abbrev pub invariant-loop-item : goal.invariant-loop-item
invariant-loop-item l = l.deepest ≡ min (fold max 0 (map depth_of (take l.item-index l.items))) (2 ^ 32 - 1)
