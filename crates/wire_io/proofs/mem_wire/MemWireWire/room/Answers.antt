use Rattle.std.proofs.Common.{◌≡◌, ℕ, List, ap, length, drop, arith}
use Rattle.wire_io.proofs.mem_wire.MemWireWire.room.Goals as goal

pub returns-clause-vacant : goal.returns-clause-vacant
returns-clause-vacant c = λ e.
    let none : length (drop c.args.self.now.given c.args.self.now.carried.items) ≡ 0 = ap (λ (q : List ℕ). length q) e in
    omega (arith, c.args.self.now.holds)
