use Rattle.eval_exprs.proofs.Objects.{unasked}
use Rattle.eval_exprs.proofs.operating.decide_unasked.Goals as goal

pub returns-clause-means : goal.returns-clause-means
returns-clause-means c = unasked c.refuse_operator.result c.args.op c.args.left.now c.args.right.now c.kind_of-left_kind.result c.kind_of-right_kind.result c.is_defined.result c.args.store.now.cells c.kind_of-left_kind.ensures c.kind_of-right_kind.ensures c.is_defined.ensures c.refuse_operator.ensures.means
