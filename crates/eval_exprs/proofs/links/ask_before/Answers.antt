use Rattle.std.proofs.Common.{ap}
use Rattle.rp_base.specs.declared.value.Value.{Value}
use Rattle.side_trees.specs.Trees.{bind}
use Rattle.language_rules.specs.Chains.{link_rule}
use Rattle.eval_frames.specs.declared.frame.Decision.TheVariants as decision
use Rattle.eval_frames.specs.declared.frame.Frame.TheVariants as frame
use Rattle.eval_frames.specs.Meaning.{resume}
use Rattle.eval_exprs.proofs.Moving.{anywhere_as, pushed}
use Rattle.eval_exprs.proofs.links.ask_before.Goals as goal

pub returns-clause-means : goal.returns-clause-means
returns-clause-means c = anywhere_as c.ask_link.result c.ask_link.new.stack.items c.args.stack.now.items (bind (link_rule c.args.comparison c.args.left c.args.right) (resume (frame.Test (decision.Link c.args.env c.in_ok-copy.field-0 c.args.next c.args.waiting)))) (bind (link_rule c.args.comparison c.args.left c.args.right) (resume (frame.Test (decision.Link c.args.env c.args.right c.args.next c.args.waiting))))
    (ap (λ (v : Value). bind (link_rule c.args.comparison c.args.left c.args.right) (resume (frame.Test (decision.Link c.args.env v c.args.next c.args.waiting)))) c.in_ok-copy.ensures) (pushed c.ask_link.result c.ask_link.new.stack.items c.args.stack.now.items c.push.new.self.items (frame.Test (decision.Link c.args.env c.in_ok-copy.field-0 c.args.next c.args.waiting)) (link_rule c.args.comparison c.args.left c.args.right) c.in_ok-push.ensures.items c.ask_link.ensures.means)
