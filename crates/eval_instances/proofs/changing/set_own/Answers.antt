use Rattle.eval_instances.proofs.OwnerLemmas.{own_set}
use Rattle.eval_instances.proofs.changing.set_own.Goals as goal

pub returns-clause-means : goal.returns-clause-means
returns-clause-means c =
    own_set c.args.store.now.cells c.put_own.new.store.cells c.args.number c.args.name c.args.value c.done.result c.requires c.in_ok-put_own.ensures c.done.ensures.means
