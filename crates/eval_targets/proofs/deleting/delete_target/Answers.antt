use Rattle.eval_targets.proofs.Receivers.{attribute_deleted, item_deleted}
use Rattle.eval_targets.proofs.deleting.delete_target.Goals as goal

pub returns-in_ok-name-in-Attribute-clause-means : goal.returns-in_ok-name-in-Attribute-clause-means
returns-in_ok-name-in-Attribute-clause-means c =
    attribute_deleted c.args.env c.args.target.now c.in-Attribute.receiver c.in-Attribute.name c.in_ok-name-in-Attribute.name c.enter_over.new.stack.items c.args.stack.now.items c.enter_over.result
    c.in-Attribute.is c.in_ok-name-in-Attribute.ensures c.enter_over.ensures.means

pub returns-in-Item-clause-means : goal.returns-in-Item-clause-means
returns-in-Item-clause-means c =
    item_deleted c.args.env c.args.target.now c.in-Item.receiver c.in-Item.key c.enter_over-in-Item.new.stack.items c.args.stack.now.items c.enter_over-in-Item.result
    c.in-Item.is c.enter_over-in-Item.ensures.means
