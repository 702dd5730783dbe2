use Rattle.eval_instances.proofs.CallLemmas.{instance_made}
use Rattle.eval_instances.proofs.making.make_instance.Goals as goal

pub returns-clause-means : goal.returns-clause-means
returns-clause-means c =
    instance_made c.args.store.now c.make_cell.new.store c.args.class c.in_ok-instance.instance c.args.arguments c.as_slice.result.now c.new-attributes.result c.initialise.result c.initialise.new.stack.items c.args.stack.now.items c.in_ok-instance.ensures.number c.in_ok-instance.ensures.made c.new-attributes.ensures c.as_slice.ensures c.initialise.ensures.means
