use Rattle.std.proofs.Common.{sym, arith, ap, Some, ◌∙◌}
use Rattle.py_plain.proofs.Stands.{tuples_stand, ended}
use Rattle.py_plain.proofs.order.+ordering.Goals as goal

pub order-returns-in-Tuple-Tuple : goal.order-returns-in-Tuple-Tuple
order-returns-in-Tuple-Tuple t c =
    tuples_stand c.args.a.now c.args.b.now c.in-Tuple-Tuple.xs c.in-Tuple-Tuple.ys c.as_slice-in-Tuple-Tuple.result.now c.as_slice-in-Tuple-Tuple-2.result.now c.order_of_items.result c.in-Tuple-Tuple.is-0 c.in-Tuple-Tuple.is-1 c.as_slice-in-Tuple-Tuple.ensures c.as_slice-in-Tuple-Tuple-2.ensures c.order_of_items.ensures

pub order_of_items-returns : goal.order_of_items-returns
order_of_items-returns t c =
    let end = c.min-i-end.ensures in
    let before = c.loop-i.auto.i-end in
    let behind = c.loop-i-test.false in
    ap Some c.cmp.ensures ∙ ended c.loop-i.i c.args.xs.now c.args.ys.now (omega arith) (omega arith) ∙ sym c.loop-i.invariant
