use Rattle.std.proofs.Common.{◌∙◌, [], ◌∷◌, ap}
use Rattle.rp_base.specs.declared.value.Value.{Value}
use Rattle.object_operations.specs.declared.operation.Operation.TheVariants as operation
use Rattle.object_operations.specs.declared.special.Special.TheVariants as special
use Rattle.eval_searching.proofs.AddLaws.{added_waits}
use Rattle.eval_searching.proofs.adding.ask_item.Goals as goal

pub returns-clause-means : goal.returns-clause-means
returns-clause-means c =
    added_waits c.args.other c.args.length c.args.position c.args.items c.in_ok-operation.operation c.operate_over.result c.operate_over.new.stack.items c.args.stack.now.items
    (c.in_ok-operation.ensures ∙ ap (λ (v : Value). operation.Special v special.GetItem (c.number.result ∷ [])) c.in_ok-receiver.ensures ∙ ap (λ (v : Value). operation.Special c.args.other special.GetItem (v ∷ [])) c.number.ensures) c.operate_over.ensures.means
