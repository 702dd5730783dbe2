use Rattle.eval_objects.proofs.IteratorLemmas.{led_on}
use Rattle.eval_objects.proofs.advancing.next_of_iterator.Goals as goal

pub returns-clause-means : goal.returns-clause-means
returns-clause-means c = led_on c.args.store.now.cells c.settle.new.store.cells c.args.number c.in_ok-upcoming.upcoming c.settle.result c.in_ok-upcoming.ensures c.settle.ensures.means
