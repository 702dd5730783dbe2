use Rattle.std.proofs.Common.{string_bytes}
use Rattle.language_rules.specs.Nodes.{member_node_rule}
use Rattle.nested_serve.proofs.Steps.{lent_texts}
use Rattle.nested_serve.proofs.running.begin_member_of.Goals as goal

pub returns-clause-means : goal.returns-clause-means
returns-clause-means c =
    lent_texts c.begin_member.result c.args.machine.now.stack.items c.begin_member.new.stack.items c.args.machine.now.store.cells c.args.machine.now.texts.items c.deref.result.now c.args.machine.now.handled c.args.machine.now.classes c.args.machine.now.printing (string_bytes c.args.machine.now.printed) (member_node_rule c.args.env c.args.number)
    c.deref.ensures.value c.begin_member.ensures.means
