use Rattle.eval_stmts.proofs.LoopTurns.{turn_entered}
use Rattle.eval_stmts.proofs.loops.enter_turn.Goals as goal

pub returns-clause-means : goal.returns-clause-means
returns-clause-means c = turn_entered c.args.env c.args.test c.args.body c.args.number c.args.waiting c.args.stack.now.items c.push.new.self.items c.push-2.new.self.items c.in_ok-push.ensures.items c.in_ok-push-2.ensures.items
