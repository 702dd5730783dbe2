use Rattle.eval_loops.proofs.ForTurns.{next_asked}
use Rattle.eval_loops.proofs.turns.ask_next.Goals as goal

pub returns-clause-means : goal.returns-clause-means
returns-clause-means c =
    next_asked c.args.env c.args.target c.args.body c.args.iterator c.in_ok-copy.field-0 c.special-operation.result c.operate_over.new.stack.items c.args.stack.now.items c.operate_over.result
    c.in_ok-copy.ensures c.special-operation.ensures c.operate_over.ensures.means
