use Rattle.std.proofs.Common.{◌≡◌, ◌≤◌, ◌++◌, length}
use Rattle.pair_run.proofs.delivery.drain.Given as goal

-- what the inbox was given, and what still waits, is all that waited
abbrev pub invariant-pieces : goal.invariant-pieces
invariant-pieces g l = (l.inbox ++ g.W.Wire.queue l.wire ≡ l.initial.inbox ++ g.W.Wire.queue l.initial.wire)
    × (g.W.Wire.carried l.wire ≡ g.W.Wire.carried l.initial.wire) × (g.W.Wire.begun l.wire ≡ g.W.Wire.begun l.initial.wire)
    × (g.W.Wire.fault_count l.initial.wire ≤ g.W.Wire.fault_count l.wire)

abbrev pub decreases-pieces : goal.decreases-pieces
decreases-pieces g l = length (g.W.Wire.queue l.wire)
