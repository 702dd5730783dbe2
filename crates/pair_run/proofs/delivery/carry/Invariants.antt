use Rattle.std.proofs.Common.{◌≡◌, ◌≤◌, ◌-◌, ◌++◌, [], length, take}
use Rattle.pair_run.proofs.delivery.carry.Given as goal

-- as many bytes as are done were carried and given
abbrev pub invariant-pieces : goal.invariant-pieces
invariant-pieces g l = (l.done ≤ length l.bytes) × (g.W.Wire.queue l.wire ≡ []) × (g.W.Wire.carried l.wire ≡ g.W.Wire.carried l.initial.wire ++ take l.done l.bytes)
    × (l.inbox ≡ l.initial.inbox ++ take l.done l.bytes) × (g.W.Wire.begun l.wire ≡ g.W.Wire.begun l.initial.wire) × (g.W.Wire.fault_count l.initial.wire ≤ g.W.Wire.fault_count l.wire)

abbrev pub decreases-pieces : goal.decreases-pieces
decreases-pieces g l = length l.bytes - l.done
