use Rattle.std.proofs.Common.{◌≡◌}
use Rattle.slave_service.proofs.Hosts.{made_to}
use Rattle.slave_service.proofs.starting.start.Given as goal

abbrev pub invariant-loop-at : goal.invariant-loop-at
invariant-loop-at l = (l.store.side ≡ l.fn.side) × (l.store.cells ≡ made_to l.names l.at)
