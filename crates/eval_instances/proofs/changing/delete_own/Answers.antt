use Rattle.eval_instances.proofs.OwnerLemmas.{own_missing, own_taken}
use Rattle.eval_instances.proofs.changing.delete_own.Goals as goal

pub returns-then-has_own-clause-means : goal.returns-then-has_own-clause-means
returns-then-has_own-clause-means c =
    own_taken c.args.store.now.cells c.take_own.new.store.cells c.args.number c.args.name.now c.done.result c.has_own.result c.requires c.has_own.ensures c.if-has_own.true c.take_own.ensures c.done.ensures.means

pub returns-else-has_own-clause-means : goal.returns-else-has_own-clause-means
returns-else-has_own-clause-means c =
    own_missing c.args.store.now.cells c.args.number c.args.name.now c.has_own.result c.fail.result c.requires c.has_own.ensures c.if-has_own.false c.fail.ensures.means
