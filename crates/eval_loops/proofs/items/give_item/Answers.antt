use Rattle.eval_loops.proofs.ForTurns.{items_ended}
use Rattle.eval_loops.proofs.items.give_item.Goals as goal

pub returns-in-Raises-clause-means : goal.returns-in-Raises-clause-means
returns-in-Raises-clause-means c =
    items_ended c.args.env c.args.target c.args.body c.args.iterator c.args.completion c.in-Raises.raised c.end_items.result c.args.store.now.cells c.args.texts.now c.args.stack.now.items c.in-Raises.is c.end_items.ensures.means
