use Rattle.eval_frames.proofs.Operating.{pushed_over}
use Rattle.eval_comparing.proofs.asking.ask_over.Goals as goal

pub returns-clause-means : goal.returns-clause-means
returns-clause-means c = pushed_over c.args.operation c.args.frame c.operate.result c.args.stack.now.items c.push.new.self.items c.in_ok-push.ensures.items c.operate.ensures.means
