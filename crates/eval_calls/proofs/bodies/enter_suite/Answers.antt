use Rattle.eval_calls.proofs.BodyLemmas.{suite_entered}
use Rattle.eval_calls.proofs.bodies.enter_suite.Goals as goal

pub returns-clause-means : goal.returns-clause-means
returns-clause-means c =
    suite_entered c.frame_of_call.result c.args.info.now c.args.env c.args.parent c.args.number c.args.waiting c.args.stack.now.items c.push.new.self.items c.push-2.new.self.items
    c.frame_of_call.ensures c.in_ok-push.ensures.items c.in_ok-push-2.ensures.items
