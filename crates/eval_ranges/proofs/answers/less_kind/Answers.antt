use Rattle.std.proofs.Common.{reverse, ap}
use Rattle.side_trees.specs.Trees.{bind}
use Rattle.language_rules.specs.Arithmetic.{less_view}
use Rattle.language_rules.specs.Going.{RuleTree, none}
use Rattle.language_rules.specs.Operators.{unsupported}
use Rattle.eval_frames.specs.Meaning.{rest}
use Rattle.eval_ranges.proofs.SpecialLemmas.{less_of_other, less_of_view, same_tree}
use Rattle.eval_ranges.proofs.answers.less_kind.Goals as goal

pub returns-then-is_view-clause-means : goal.returns-then-is_view-clause-means
returns-then-is_view-clause-means c = λ stack. ap (λ (t : RuleTree). bind t (rest (reverse stack))) (less_of_view c.args.kind c.is_view.result (c.is_view.ensures none) c.if-is_view.true)

pub returns-else-is_view-clause-means : goal.returns-else-is_view-clause-means
returns-else-is_view-clause-means c = same_tree unsupported (less_view c.args.kind) c.refuse.result (less_of_other c.args.kind c.is_view.result (c.is_view.ensures none) c.if-is_view.false) c.refuse.ensures.means
