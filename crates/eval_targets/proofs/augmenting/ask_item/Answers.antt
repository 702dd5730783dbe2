use Rattle.std.proofs.Common.{◌∷◌, [], ap, ◌∙◌}
use Rattle.rp_base.specs.declared.value.Value.{Value}
use Rattle.object_operations.specs.declared.operation.Operation.TheVariants as operation
use Rattle.object_operations.specs.declared.special.Special.TheVariants as special
use Rattle.language_rules.specs.Targets.{augments, stores_item}
use Rattle.eval_targets.proofs.OldValues.{asks_as}
use Rattle.eval_targets.proofs.augmenting.ask_item.Goals as goal

pub returns-clause-means : goal.returns-clause-means
returns-clause-means c =
    asks_as c.in_ok-operation.operation (operation.Special c.args.receiver special.GetItem (c.args.key ∷ [])) (λ old. augments c.args.env c.args.op c.args.right old (stores_item c.args.receiver c.args.key)) c.ask_old.new.stack.items c.args.stack.now.items c.ask_old.result
    (c.in_ok-operation.ensures ∙ ap (λ (v : Value). operation.Special v special.GetItem (c.in_ok-wanted.wanted ∷ [])) c.in_ok-asked.ensures ∙ ap (λ (k : Value). operation.Special c.args.receiver special.GetItem (k ∷ [])) c.in_ok-wanted.ensures)
    c.ask_old.ensures.means
