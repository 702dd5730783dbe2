use Rattle.std.proofs.Common.{codes, false}
use Rattle.eval_instances.proofs.CallLemmas.{at_once, by_told}
use Rattle.language_rules.specs.Operators.{unsupported}
use Rattle.side_trees.specs.Trees.{Stop}
use Rattle.rp_base.specs.declared.exceptions.Beyond.TheVariants as beyond
use Rattle.eval_instances.proofs.operations.less_by_items.Goals as goal

pub returns-else-has_method-clause-means : goal.returns-else-has_method-clause-means
returns-else-has_method-clause-means c =
    by_told c.args.store.now.cells c.args.number (codes "__getitem__") (Stop beyond.Operator) unsupported c.has_method.result false c.refuse.result c.has_method.ensures c.if-has_method.false (at_once c.args.store.now.cells unsupported c.refuse.result c.refuse.ensures.means)
