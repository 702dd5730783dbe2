use Rattle.rp_base.specs.Values.{tuple_of}
use Rattle.value_operators.proofs.TupleLemmas.{made, not_made}
use Rattle.value_operators.proofs.tuples.make.Goals as goal

pub returns-in-Ok : goal.returns-in-Ok
returns-in-Ok c = made (tuple_of c.args.items) c.make_tuple.result c.in-Ok.tuple c.make_tuple.ensures c.in-Ok.is

pub returns-in-Err : goal.returns-in-Err
returns-in-Err c = not_made (tuple_of c.args.items) c.make_tuple.result c.in-Err.end c.limit.result c.make_tuple.ensures c.in-Err.is c.limit.ensures
