use Rattle.eval_exprs.proofs.Objects.{gone_over_asked}
use Rattle.eval_exprs.proofs.builtins.go_over.Goals as goal

pub returns-clause-means : goal.returns-clause-means
returns-clause-means c = gone_over_asked c.operate_over.result c.operate_over.new.stack.items c.args.stack.now.items c.args.function c.args.value c.collection_for.result c.special-operation.result c.collection_for.ensures c.special-operation.ensures c.operate_over.ensures.means
