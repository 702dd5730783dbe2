use Rattle.rp_base.specs.declared.operators.CmpOp.TheVariants as cmp
use Rattle.language_rules.specs.Comparing.{compare_step}
use Rattle.eval_comparing.proofs.LevelLaws.{asked_within, filled}
use Rattle.eval_comparing.proofs.deciding.ask_within.Goals as goal

pub returns-in_ok-push-clause-means : goal.returns-in_ok-push-clause-means
returns-in_ok-push-clause-means c = asked_within c.ask_comparison-else-is_empty.result c.ask_comparison-else-is_empty.new.stack.items c.args.stack.now.items c.push.new.self.items c.args.levels (compare_step cmp.Eq c.args.left c.args.right) (filled c.args.levels c.if-is_empty.ensures) c.in_ok-push.ensures.items c.ask_comparison-else-is_empty.ensures.means
