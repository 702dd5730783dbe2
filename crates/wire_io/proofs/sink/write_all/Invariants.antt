use Rattle.std.proofs.Common.{◌≤◌, ◌-◌, length, take}
use Rattle.wire_io.specs.Devices.{Wrote}
use Rattle.wire_io.proofs.sink.write_all.Given as goal

abbrev pub invariant-loop-done : goal.invariant-loop-done
invariant-loop-done g l =
    (l.done ≤ length l.text) × (g.S.Sink.fault_count l.initial.sink ≤ g.S.Sink.fault_count l.sink) × Wrote (g.S.Sink.told l.initial.sink) (take l.done l.text) (g.S.Sink.told l.sink)

abbrev pub decreases-loop-done : goal.decreases-loop-done
decreases-loop-done g l = length l.text - l.done
