use Rattle.value_operators.proofs.CompareLemmas.{ordered_bool, ordered_end}
use Rattle.value_operators.proofs.links.order_of_plains.Goals as goal

pub returns-in-Ok-clause-computes : goal.returns-in-Ok-clause-computes
returns-in-Ok-clause-computes c = ordered_bool c.args.op c.args.left.now c.args.right.now c.plain_compare.result c.in-Ok.holds c.boolean.result c.plain_compare.ensures c.in-Ok.is c.boolean.ensures

pub returns-in-Err-clause-computes : goal.returns-in-Err-clause-computes
returns-in-Err-clause-computes c = ordered_end c.args.op c.args.left.now c.args.right.now c.plain_compare.result c.in-Err.end c.end_of.result c.plain_compare.ensures c.in-Err.is c.end_of.ensures
