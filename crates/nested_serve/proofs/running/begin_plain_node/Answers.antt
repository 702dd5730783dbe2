use Rattle.std.proofs.Common.{string_bytes}
use Rattle.language_rules.specs.Nodes.{node_rule}
use Rattle.nested_serve.proofs.Steps.{lent_both}
use Rattle.nested_serve.proofs.running.begin_plain_node.Goals as goal

pub returns-clause-means : goal.returns-clause-means
returns-clause-means c =
    lent_both c.enter.result c.args.machine.now.stack.items c.enter.new.stack.items c.args.machine.now.store.cells c.enter.new.store.cells c.args.machine.now.texts.items c.deref.result.now c.args.machine.now.handled c.as_slice.result.now c.args.machine.now.classes c.args.machine.now.printing (string_bytes c.args.machine.now.printed) (node_rule c.args.env c.args.number)
    c.deref.ensures.value c.as_slice.ensures c.enter.ensures.means
