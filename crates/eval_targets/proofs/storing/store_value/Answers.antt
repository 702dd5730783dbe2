use Rattle.eval_targets.proofs.Receivers.{value_stored}
use Rattle.eval_targets.proofs.storing.store_value.Goals as goal

pub returns-clause-means : goal.returns-clause-means
returns-clause-means c =
    value_stored c.args.destination c.args.value c.in_ok-operation.operation c.operate_over.new.stack.items c.args.stack.now.items c.operate_over.result
    c.in_ok-operation.ensures c.operate_over.ensures.means
