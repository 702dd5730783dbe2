use Rattle.std.proofs.Common.{◌≡◌, ◌+◌, ◌≤◌, ◌++◌, drop, arith}
use Rattle.std.specs.List.{slice_range}
use Rattle.std.proofs.lemmas.List.Folds.{drop_split}
use Rattle.wire_io.proofs.mem_wire.MemWireWire.get.Goals as goal

pub returns-in-Ok-clause-order : goal.returns-in-Ok-clause-order
returns-in-Ok-clause-order c =
    let all = c.args.self.now.carried.items in
    let from = c.args.self.now.given in
    let end = from + c.min.result in
    let forward : from ≤ end = omega arith in
    let split : drop from all ≡ slice_range all from end ++ drop end all = drop_split all from end forward in
    cc (split, c.in-Ok.ensures.items, c.deref.ensures.value)
