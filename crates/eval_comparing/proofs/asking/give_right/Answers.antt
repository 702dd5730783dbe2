use Rattle.language_rules.specs.Comparing.{implemented, last_step}
use Rattle.language_rules.specs.Going.{carry, value_step}
use Rattle.std.proofs.Common.{sym, ap, reverse}
use Rattle.side_trees.specs.Trees.{bind}
use Rattle.language_rules.specs.Going.{RuleTree}
use Rattle.eval_frames.specs.Meaning.{rest}
use Rattle.eval_comparing.proofs.Moving.{each_as}
use Rattle.eval_comparing.proofs.Operands.{handed_on, not_implemented}
use Rattle.eval_comparing.proofs.asking.give_right.Goals as goal

pub returns-then-is_not_implemented-clause-means : goal.returns-then-is_not_implemented-clause-means
returns-then-is_not_implemented-clause-means c = each_as c.compare_last.result (carry (last_step c.args.op c.args.left c.args.right)) (carry (value_step (implemented (last_step c.args.op c.args.left c.args.right)) c.args.completion)) (not_implemented c.args.completion (last_step c.args.op c.args.left c.args.right) (sym c.if-is_not_implemented.ensures)) c.compare_last.ensures.means

pub returns-clause-means : goal.returns-clause-means
returns-clause-means c = λ stack. ap (λ (t : RuleTree). bind t (rest (reverse stack))) (handed_on c.args.completion (last_step c.args.op c.args.left c.args.right) (sym c.if-is_not_implemented.ensures))
