use Rattle.std.proofs.Common.{◌-◌, drop, length}
use Rattle.pair_run.specs.Scripts.{Agrees}
use Rattle.pair_run.proofs.scripts.latest.Given as goal

-- so far they agree with as many of the last bindings
abbrev pub invariant-loop-i : goal.invariant-loop-i
invariant-loop-i l = Agrees l.namespace.items (drop (length l.bindings - l.i) l.bindings)
