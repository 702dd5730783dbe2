use Rattle.eval_stmts.proofs.LoopTurns.{turn_begun}
use Rattle.eval_stmts.proofs.loops.begin_while.Goals as goal

pub returns-clause-means : goal.returns-clause-means
returns-clause-means c = turn_begun c.args.env c.args.test c.args.body c.enter_over.new.stack.items c.args.stack.now.items c.enter_over.result c.enter_over.ensures.means
