use Rattle.std.proofs.Common.{ap, ◌++◌, ◌≤◌, ℕ, List, arith, map, fold, max}
use Rattle.rp_base.specs.PlainValues.{plain_depth}
use Rattle.std.proofs.lemmas.Result.{IfOk-equal}
use Rattle.brine_codec.proofs.Fronts.{on_err, front_within}
use Rattle.brine_codec.proofs.Values.{tuple_needs, tuple_spelled, tuple_falls, items_deep}
use Rattle.brine_codec.proofs.encoding.+writing.Goals as goal

pub put_tuple-returns-in_err-put_value-clause-err : goal.put_tuple-returns-in_err-put_value-clause-err
put_tuple-returns-in_err-put_value-clause-err t c =
    on_err c.from_residual-in_err-put_value.result (front_within c.args.out.now.items _ c.put_value.new.out.items c.loop-item.out.items c.loop-item.invariant c.in_err-put_value.ensures.err)

pub put_value-put_tuple-requires : goal.put_value-put_tuple-requires
put_value-put_tuple-requires t c =
    let less = tuple_falls c.args.v.now c.in-Tuple.items c.as_slice-in-Tuple.result.now c.in-Tuple.is c.as_slice-in-Tuple.ensures in
    let needs = tuple_needs c.args.v.now c.in-Tuple.items c.as_slice-in-Tuple.result.now c.in-Tuple.is c.as_slice-in-Tuple.ensures c.requires in
    (omega (arith, less), (needs.0, needs.1))

pub put_tuple-put_value-requires : goal.put_tuple-put_value-requires
put_tuple-put_value-requires t c =
    let deep : plain_depth c.item-item.result ≤ fold max 0 (map plain_depth c.args.items.now) = rw c.item-item.is (items_deep c.args.items.now c.loop-item.item-index _ c.loop-item-test.true) in
    (omega (arith, deep), rw c.item-item.is (c.requires.spelled c.loop-item.item-index _ c.loop-item-test.true))

pub put_value-returns-in-Tuple-clause-ok : goal.put_value-returns-in-Tuple-clause-ok
put_value-returns-in-Tuple-clause-ok t c =
    IfOk-equal c.put_tuple.result _ _ _ c.put_tuple.ensures.ok
    (ap (λ (x : List ℕ). c.args.out.now.items ++ x) (tuple_spelled c.args.v.now c.in-Tuple.items c.as_slice-in-Tuple.result.now c.in-Tuple.is c.as_slice-in-Tuple.ensures))
