use Rattle.eval_loops.proofs.ForTurns.{turn_entered}
use Rattle.eval_loops.proofs.turns.enter_turn.Goals as goal

pub returns-clause-means : goal.returns-clause-means
returns-clause-means c =
    turn_entered c.args.frame c.args.env c.args.number c.args.waiting c.args.stack.now.items c.push.new.self.items c.push-2.new.self.items c.in_ok-push.ensures.items c.in_ok-push-2.ensures.items
