use Rattle.std.proofs.Common.{◌≡◌, drop}
use Rattle.py_plain.specs.Comparing.{items_order}
use Rattle.py_plain.proofs.order.+ordering.Given as goal

-- the answer is that for what is left
abbrev pub invariant-order_of_items-loop-i : goal.invariant-order_of_items-loop-i
invariant-order_of_items-loop-i l = items_order l.xs l.ys ≡ items_order (drop l.i l.xs) (drop l.i l.ys)
