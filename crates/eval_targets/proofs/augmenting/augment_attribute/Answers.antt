use Rattle.std.proofs.Common.{ℕ, List, ap, ◌∙◌}
use Rattle.rp_base.specs.declared.value.Value.{Value}
use Rattle.object_operations.specs.declared.operation.Operation.TheVariants as operation
use Rattle.language_rules.specs.Targets.{augments, stores_attribute}
use Rattle.eval_targets.proofs.OldValues.{asks_as}
use Rattle.eval_targets.proofs.augmenting.augment_attribute.Goals as goal

pub returns-clause-means : goal.returns-clause-means
returns-clause-means c =
    asks_as (operation.GetAttr c.in_ok-asked.asked c.in_ok-spelled.spelled) (operation.GetAttr c.args.receiver c.args.name) (λ old. augments c.args.env c.args.op c.args.right old (stores_attribute c.args.receiver c.args.name)) c.ask_old.new.stack.items c.args.stack.now.items c.ask_old.result
    (ap (λ (v : Value). operation.GetAttr v c.in_ok-spelled.spelled) c.in_ok-asked.ensures ∙ ap (λ (n : List ℕ). operation.GetAttr c.args.receiver n) c.in_ok-spelled.ensures)
    c.ask_old.ensures.means
