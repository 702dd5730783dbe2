use Rattle.std.proofs.Common.{string_bytes, ◌++◌, ◌+◌, codes, map}
use Rattle.py_strs.specs.Joining.{joined}
use Rattle.py_plain.specs.Printing.{repr_of}
use Rattle.py_plain.specs.Putting.{separator}
use Rattle.py_plain.proofs.PutLaws.{tuple_put, more, fails, first_items, items_left, one_item_more, with_items_left}
use Rattle.py_plain.proofs.repr.+printing.Goals as goal

pub put-returns-in-Tuple : goal.put-returns-in-Tuple
put-returns-in-Tuple t c =
    tuple_put c.args.most c.args.a.now c.in-Tuple.items c.as_slice-in-Tuple.result.now (string_bytes c.args.out.now) (string_bytes c.put_tuple.new.out) c.put_tuple.result c.in-Tuple.is c.as_slice-in-Tuple.ensures c.put_tuple.ensures

pub put_items-returns-in_err-put_item : goal.put_items-returns-in_err-put_item
put_items-returns-in_err-put_item t c =
    fails c.args.most (first_items c.loop-i.i c.args.items.now) (separator c.loop-i.i ++ repr_of c.index-items-i.result) (items_left (c.loop-i.i + 1) c.args.items.now) (joined (codes ", ") (map repr_of c.args.items.now))
    (string_bytes c.args.out.now) (string_bytes c.loop-i.out) (string_bytes c.put_item.new.out) c.in_err-put_item.field-0.0 c.from_residual.result
    c.loop-i.invariant.1 (with_items_left c.loop-i.i c.args.items.now c.index-items-i.result c.loop-i-test.true c.index-items-i.is) c.in_err-put_item.ensures c.from_residual.ensures.1

pub put_items-loop-i-preserved : goal.put_items-loop-i-preserved
put_items-loop-i-preserved t c =
    more c.args.most (first_items c.loop-i.i c.args.items.now) (separator c.loop-i.i ++ repr_of c.index-items-i.result) (first_items (c.loop-i.i + 1) c.args.items.now)
    (string_bytes c.args.out.now) (string_bytes c.loop-i.out) (string_bytes c.put_item.new.out) c.in_ok-put_item.field-0
    c.loop-i.invariant.1 (one_item_more c.loop-i.i c.args.items.now c.index-items-i.result c.loop-i-test.true c.index-items-i.is) c.in_ok-put_item.ensures
