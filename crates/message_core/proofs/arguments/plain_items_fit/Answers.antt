use Rattle.message_core.proofs.ArgumentLaws.{no_object}
use Rattle.message_core.proofs.arguments.plain_items_fit.Goals as goal

pub returns-in_default : goal.returns-in_default
returns-in_default c = no_object c.args.handler c.args.items.now c.in_default.not-Ping c.in_default.not-Close c.in_default.not-GetRoot c.in_default.not-Inspect
