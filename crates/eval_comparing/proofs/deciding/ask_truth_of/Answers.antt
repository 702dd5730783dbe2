use Rattle.rp_base.specs.declared.operators.CmpOp.TheVariants as cmp
use Rattle.language_rules.specs.Comparing.{compare_step}
use Rattle.eval_comparing.proofs.LevelLaws.{truth_asked}
use Rattle.eval_comparing.proofs.deciding.ask_truth_of.Goals as goal

pub returns-clause-means : goal.returns-clause-means
returns-clause-means c = truth_asked c.ask_within.result c.ask_within.new.stack.items c.args.stack.now.items c.new-levels.result c.push.new.self c.append.new.self c.args.question.levels c.new.result (compare_step cmp.Eq c.args.question.left c.args.question.right) c.new-levels.ensures c.new.ensures c.in_ok-push.ensures.ok c.in_ok-append.ensures c.ask_within.ensures.means
