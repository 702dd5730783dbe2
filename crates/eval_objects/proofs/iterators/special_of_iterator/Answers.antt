use Rattle.std.proofs.Common.{sym, ◌∙◌}
use Rattle.eval_objects.proofs.IteratorLemmas.{still_there}
use Rattle.eval_objects.proofs.iterators.special_of_iterator.Goals as goal

pub returns-else-asks_next-clause-means : goal.returns-else-asks_next-clause-means
returns-else-asks_next-clause-means c = still_there c.args.store.now.cells c.args.number c.args.special c.args.arguments.now c.still_of_iterator.result c.requires (sym c.asks_next.ensures ∙ c.if-asks_next.false) c.still_of_iterator.ensures.means
