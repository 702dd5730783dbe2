use Rattle.std.proofs.Common.{◌≡◌, ◌+◌, ◌-◌, ◌^◌, min, take, map, sum}
use Rattle.rp_base.specs.Values.{weight_of}
use Rattle.eval_frames.proofs.asking.weigh.Given as goal

abbrev pub invariant-loop-value : goal.invariant-loop-value
invariant-loop-value l = l.sum ≡ min (1 + sum (map weight_of (take l.value-index l.values))) (2 ^ 64 - 1)
