use Rattle.side_trees.specs.Trees.{bind}
use Rattle.language_rules.specs.Chains.{link_rule, opposite}
use Rattle.language_rules.specs.Comparing.{compare_step}
use Rattle.language_rules.specs.Going.{carry, on_value}
use Rattle.language_rules.specs.PlainItems.{contains_in}
use Rattle.eval_exprs.proofs.Moving.{anywhere, anywhere_as, over_one}
use Rattle.eval_exprs.proofs.Operands.{contained, not_contained, ordered}
use Rattle.eval_exprs.proofs.links.ask_link.Goals as goal

pub returns-in-Order-clause-means : goal.returns-in-Order-clause-means
returns-in-Order-clause-means c = anywhere_as c.ask_comparison.result c.ask_comparison.new.stack.items c.args.stack.now.items (carry (compare_step c.in-Order.op c.args.left c.args.right)) (link_rule c.args.comparison c.args.left c.args.right) (ordered c.args.comparison c.in-Order.op c.args.left c.args.right c.in-Order.is) c.ask_comparison.ensures.means

pub returns-in-In-clause-means : goal.returns-in-In-clause-means
returns-in-In-clause-means c = anywhere_as c.ask_container.result c.args.stack.now.items c.args.stack.now.items (contains_in c.args.right c.args.left) (link_rule c.args.comparison c.args.left c.args.right) (contained c.args.comparison c.args.left c.args.right c.in-In.is) (anywhere c.ask_container.result c.args.stack.now.items c.args.stack.now.items (contains_in c.args.right c.args.left) (over_one c.ask_container.result c.args.stack.now.items (contains_in c.args.right c.args.left) c.ask_container.ensures.means))

pub returns-in-NotIn-clause-means : goal.returns-in-NotIn-clause-means
returns-in-NotIn-clause-means c = anywhere_as c.ask_other_container.result c.ask_other_container.new.stack.items c.args.stack.now.items (bind (contains_in c.args.right c.args.left) (on_value opposite)) (link_rule c.args.comparison c.args.left c.args.right) (not_contained c.args.comparison c.args.left c.args.right c.in-NotIn.is) (anywhere c.ask_other_container.result c.ask_other_container.new.stack.items c.args.stack.now.items (bind (contains_in c.args.right c.args.left) (on_value opposite)) c.ask_other_container.ensures.means)
