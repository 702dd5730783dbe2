use Rattle.eval_calls.proofs.BodyLemmas.{expression_entered}
use Rattle.eval_calls.proofs.bodies.begin_expression.Goals as goal

pub returns-clause-means : goal.returns-clause-means
returns-clause-means c =
    expression_entered c.frame_of_call.result c.args.info.now c.args.env c.args.parent c.args.stack.now.items c.enter_over.new.stack.items c.enter_over.result c.frame_of_call.ensures c.enter_over.ensures.means
