use Rattle.eval_draining.proofs.AskingNext.{next_asked}
use Rattle.eval_draining.proofs.going_over.ask_next.Goals as goal

pub returns-clause-means : goal.returns-clause-means
returns-clause-means c = next_asked c.operate.result c.args.collection c.args.iterator c.in_ok-copy.field-0 c.args.items c.special-operation.result c.args.stack.now.items c.push.new.self.items c.in_ok-copy.ensures c.special-operation.ensures c.in_ok-push.ensures.items c.operate.ensures.means
