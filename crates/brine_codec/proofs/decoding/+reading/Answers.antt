use Rattle.std.proofs.Common.{arith}
use Rattle.std.proofs.lemmas.Result.{err_from_is_err_and}
use Rattle.brine_codec.specs.Reading.{value_at}
use Rattle.brine_codec.proofs.Loop.{goes_on, ends_so, is_done, no_levels, tuple_stops, tuple_stops_within, tuple_is}
use Rattle.brine_codec.proofs.decoding.+reading.Goals as goal

pub read_items-returns-in_err-item : goal.read_items-returns-in_err-item
read_items-returns-in_err-item t c =
    let p = err_from_is_err_and c.from_residual.result c.from_residual.ensures.1 in
    rw (p.1, p.2)
    (ends_so (value_at c.args.levels) c.in_err-item.field-0.0 c.loop.items c.args.count c.loop.counter c.loop.rest.now _ c.loop-test.true c.in_err-item.ensures c.loop.invariant)

pub read_items-loop-preserved : goal.read_items-loop-preserved
read_items-loop-preserved t c =
    rw c.in_ok-push.ensures.ok
    (goes_on (value_at c.args.levels) c.loop.items c.args.count c.loop.counter c.loop.rest.now c.in_ok-item.item c.in_ok-item.after.now _ c.loop-test.true c.in_ok-item.ensures c.loop.invariant)

pub read_items-returns : goal.read_items-returns
read_items-returns t c = is_done (value_at c.args.levels) c.loop.items c.args.count c.loop.counter c.loop.rest.now _ c.loop-test.false c.loop.invariant

pub read_tuple-returns-then-levels-eq0 : goal.read_tuple-returns-then-levels-eq0
read_tuple-returns-then-levels-eq0 t c = no_levels c.args.levels c.args.size c.args.left c.args.bytes.now (omega arith)

pub read_tuple-returns-in_err-count : goal.read_tuple-returns-in_err-count
read_tuple-returns-in_err-count t c =
    let p = err_from_is_err_and c.from_residual.result c.from_residual.ensures.1 in
    rw (p.1, p.2) (tuple_stops c.args.levels c.args.size c.args.left c.args.bytes.now c.in_err-count.field-0.0 (omega arith) c.in_err-count.ensures)

pub read_tuple-returns-in_err-items : goal.read_tuple-returns-in_err-items
read_tuple-returns-in_err-items t c =
    let p = err_from_is_err_and c.from_residual-in_err-items.result c.from_residual-in_err-items.ensures.1 in
    rw (p.1, p.2)
    (tuple_stops_within c.args.levels c.args.size c.args.left c.args.bytes.now c.in_ok-count.count c.in_ok-count.rest.now c.in_err-items.field-0.0 (omega arith) c.in_ok-count.ensures c.in_err-items.ensures)

pub read_tuple-returns : goal.read_tuple-returns
read_tuple-returns t c =
    tuple_is c.args.levels c.args.size c.args.left c.args.bytes.now c.in_ok-count.count c.in_ok-count.rest.now c.in_ok-items.items c.in_ok-items.rest.now (omega arith) c.in_ok-count.ensures c.in_ok-items.ensures
