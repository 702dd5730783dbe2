use Rattle.std.proofs.Common.{◌≡◌, ◌<◌, ap, ◌∙◌, arith}
use Rattle.slave_service.proofs.Hosts.{all_made, made_to, room}
use Rattle.slave_service.proofs.starting.start.Goals as goal

pub make-requires-in-loop-at : goal.make-requires-in-loop-at
make-requires-in-loop-at c =
    let less : c.loop-at.at < c.args.modules = omega (arith, c.loop-at-test.true) in
    room c.args.names.now c.loop-at.at c.args.modules c.loop-at.store.cells c.loop-at.invariant.1 less c.requires

pub returns-clause-cells : goal.returns-clause-cells
returns-clause-cells c =
    let all : c.loop-at.at ≡ c.args.modules = omega (arith, c.loop-at-test.false, c.loop-at.auto.at-end) in
    all_made c.args.names.now c.args.modules c.loop-at.store.cells (c.loop-at.invariant.1 ∙ ap (made_to c.args.names.now) all)
