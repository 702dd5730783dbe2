use Rattle.eval_exprs.proofs.Tuples.{tuple_repr, tuple_str}
use Rattle.eval_exprs.proofs.builtins.tuple_to_show.Goals as goal

pub returns-in-Str : goal.returns-in-Str
returns-in-Str c = tuple_str c.args.function c.args.arguments.now c.only_tuple.result c.in-Str.is c.only_tuple.ensures

pub returns-in-Repr : goal.returns-in-Repr
returns-in-Repr c = tuple_repr c.args.function c.args.arguments.now c.only_tuple-in-Repr.result c.in-Repr.is c.only_tuple-in-Repr.ensures
