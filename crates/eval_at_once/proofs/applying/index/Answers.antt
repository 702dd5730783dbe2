use Rattle.language_rules.specs.PlainItems.{item_of}
use Rattle.eval_at_once.proofs.applying.index.Goals as goal

pub returns : goal.returns
returns c = c.told.ensures (item_of c.args.a.value c.args.b.value) c.item.ensures.computes
