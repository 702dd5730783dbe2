use Rattle.std.proofs.Common.{◌-◌, string_bytes}
use Rattle.language_rules.specs.Beginnings.{while_begins}
use Rattle.nested_serve.proofs.WithinLaws.{lent_within}
use Rattle.nested_serve.proofs.within.begin_round.Goals as goal

pub returns-clause-means : goal.returns-clause-means
returns-clause-means c =
    lent_within c.begin_turn.result c.args.machine.now.stack.items c.begin_turn.new.stack.items c.args.machine.now.store c.begin_turn.new.store c.args.machine.now.texts.items c.deref.result.now c.args.machine.now.handled c.args.machine.now.classes c.args.machine.now.printing (string_bytes c.args.machine.now.printed) (while_begins c.args.env c.args.test c.args.body) (c.args.fuel.now - c.begin_turn.new.fuel)
    c.deref.ensures.value c.begin_turn.ensures.means
