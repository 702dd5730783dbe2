use Rattle.eval_instances.proofs.CallLemmas.{operator_told}
use Rattle.eval_instances.proofs.operations.operate_with.Goals as goal

pub returns-clause-means : goal.returns-clause-means
returns-clause-means c =
    operator_told c.args.store.now.cells c.call_or_refuse.new.stack.items c.args.stack.now.items c.args.number c.args.special c.args.x.now c.text.result.now c.from_ref-arguments.result.now c.call_or_refuse.result c.text.ensures c.from_ref-arguments.ensures.value c.call_or_refuse.ensures.means
