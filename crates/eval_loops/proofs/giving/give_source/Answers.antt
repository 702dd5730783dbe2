use Rattle.eval_loops.proofs.ForTurns.{source_asked}
use Rattle.eval_loops.proofs.giving.give_source.Goals as goal

pub returns-in-Gives-clause-means : goal.returns-in-Gives-clause-means
returns-in-Gives-clause-means c =
    source_asked c.args.env c.args.target c.args.body c.args.completion c.in-Gives.source c.special.result c.operate_over.new.stack.items c.args.stack.now.items c.operate_over.result
    c.in-Gives.is c.special.ensures c.operate_over.ensures.means
