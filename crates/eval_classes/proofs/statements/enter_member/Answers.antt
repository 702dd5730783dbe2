use Rattle.eval_classes.proofs.ClassSteps.{member_entered}
use Rattle.eval_classes.proofs.statements.enter_member.Goals as goal

pub returns-clause-means : goal.returns-clause-means
returns-clause-means c = member_entered c.args.frame c.args.stack.now.items c.push.new.self.items c.in_ok-push.ensures.items
