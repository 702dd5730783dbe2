use Rattle.std.proofs.Common.{codes}
use Rattle.eval_instances.proofs.CallLemmas.{two_told}
use Rattle.side_trees.specs.Trees.{Return}
use Rattle.language_rules.specs.Going.{done}
use Rattle.language_rules.specs.PlainItems.{no_items}
use Rattle.eval_instances.proofs.specials.set_item.Goals as goal

pub returns-clause-means : goal.returns-clause-means
returns-clause-means c =
    two_told c.args.store.now.cells c.call_or_refuse.new.stack.items c.args.stack.now.items c.args.number (codes "__setitem__") c.args.key.now c.in_ok-copy.field-0 c.args.item.now c.in_ok-copy-2.field-0 (λ answer. Return done) no_items c.call_or_refuse.result c.in_ok-copy.ensures c.in_ok-copy-2.ensures c.call_or_refuse.ensures.means
