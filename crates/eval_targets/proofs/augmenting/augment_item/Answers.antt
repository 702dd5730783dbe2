use Rattle.std.proofs.Common.{sym}
use Rattle.language_rules.specs.Targets.{augments, stores_item}
use Rattle.eval_targets.proofs.OldValues.{old_asked}
use Rattle.eval_targets.proofs.augmenting.augment_item.Goals as goal

pub returns-then-is_reference-clause-means : goal.returns-then-is_reference-clause-means
returns-then-is_reference-clause-means c =
    old_asked c.args.receiver c.args.key (λ old. augments c.args.env c.args.op c.args.right old (stores_item c.args.receiver c.args.key)) c.ask_item.new.stack.items c.args.stack.now.items c.ask_item.result
    (sym c.if-is_reference.ensures) c.ask_item.ensures.means
