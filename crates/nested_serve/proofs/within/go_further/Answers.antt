use Rattle.std.proofs.Common.{◌-◌, ap, reverse, string_bytes}
use Rattle.language_rules.specs.Codes.{Completion}
use Rattle.language_rules.specs.Going.{executes_all, on_value}
use Rattle.nested_serve.proofs.WithinLaws.{lent_as}
use Rattle.nested_serve.proofs.within.go_further.Goals as goal

pub returns-in-Gives-clause-means : goal.returns-in-Gives-clause-means
returns-in-Gives-clause-means c =
    lent_as c.execute_waiting.result c.args.machine.now.stack.items c.execute_waiting.new.stack.items c.args.machine.now.store c.execute_waiting.new.store c.args.machine.now.texts.items c.deref.result.now c.args.machine.now.handled c.args.machine.now.classes c.args.machine.now.printing (string_bytes c.args.machine.now.printed) _ (executes_all c.args.env (reverse c.args.waiting)) (c.args.fuel.now - c.execute_waiting.new.fuel)
    c.deref.ensures.value (ap (λ (a : Completion). on_value (λ v. executes_all c.args.env (reverse c.args.waiting)) a) c.in-Gives.is) c.execute_waiting.ensures.means
