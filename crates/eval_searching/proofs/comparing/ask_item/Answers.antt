use Rattle.std.proofs.Common.{◌∙◌, [], ◌∷◌, ap}
use Rattle.rp_base.specs.declared.value.Value.{Value}
use Rattle.object_operations.specs.declared.operation.Operation.TheVariants as operation
use Rattle.object_operations.specs.declared.special.Special.TheVariants as special
use Rattle.eval_searching.proofs.CompareLaws.{item_waits}
use Rattle.eval_searching.proofs.comparing.ask_item.Goals as goal

pub returns-clause-means : goal.returns-clause-means
returns-clause-means c =
    item_waits c.args.pair c.args.length c.args.position c.in_ok-operation.operation c.operate_over.result c.operate_over.new.stack.items c.args.stack.now.items
    (c.in_ok-operation.ensures ∙ ap (λ (v : Value). operation.Special v special.GetItem (c.number.result ∷ [])) c.in_ok-other.ensures ∙ ap (λ (v : Value). operation.Special c.args.pair.other special.GetItem (v ∷ [])) c.number.ensures) c.operate_over.ensures.means
