use Rattle.std.proofs.Common.{◌≡◌, ◌≤◌, ◌++◌, take, string_bytes}
use Rattle.pair_run.specs.Talk.{IsIdle, printed}
use Rattle.pair_run.proofs.Items.{Going}
use Rattle.pair_run.proofs.pair.print_items.Given as goal

-- the exchanges of the first letters were carried, and those of the others are to come
abbrev pub invariant-loop-index : goal.invariant-loop-index
invariant-loop-index g l =
    Going l.initial.b.bindings.items l.letters l.index (g.W.Wire.carried l.initial.ab) (g.W.Wire.carried l.ab) (g.W.Wire.carried l.initial.ba) (g.W.Wire.carried l.ba)
    × (string_bytes l.a.output ≡ string_bytes l.initial.a.output ++ printed l.initial.b.bindings.items (take l.index l.letters))
    × IsIdle (g.W.Wire.queue l.ab) (g.W.Wire.queue l.ba) l.a.inbox l.b.inbox
    × (l.b.bindings ≡ l.initial.b.bindings)
    × (g.W.Wire.begun l.ab ≡ g.W.Wire.begun l.initial.ab) × (g.W.Wire.begun l.ba ≡ g.W.Wire.begun l.initial.ba)
    × (g.W.Wire.fault_count l.initial.ab ≤ g.W.Wire.fault_count l.ab) × (g.W.Wire.fault_count l.initial.ba ≤ g.W.Wire.fault_count l.ba)
