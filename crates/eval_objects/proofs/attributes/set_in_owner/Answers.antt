use Rattle.eval_objects.proofs.AttributeLemmas.{copies_set}
use Rattle.eval_objects.proofs.attributes.set_in_owner.Goals as goal

pub returns-clause-means : goal.returns-clause-means
returns-clause-means c =
    copies_set c.args.store.now.cells c.set_own.new.store.cells c.args.number c.args.name.now c.in_ok-name.name c.args.value.now c.in_ok-value.value c.set_own.result c.in_ok-name.ensures c.in_ok-value.ensures c.set_own.ensures.means
