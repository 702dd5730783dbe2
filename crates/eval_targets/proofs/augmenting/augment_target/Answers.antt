use Rattle.eval_targets.proofs.Receivers.{attribute_augmented, item_augmented}
use Rattle.eval_targets.proofs.augmenting.augment_target.Goals as goal

pub returns-in_ok-name-in-Attribute-clause-means : goal.returns-in_ok-name-in-Attribute-clause-means
returns-in_ok-name-in-Attribute-clause-means c =
    attribute_augmented c.args.env c.args.op c.args.right c.args.target.now c.in-Attribute.receiver c.in-Attribute.name c.in_ok-name-in-Attribute.name c.args.store.now.cells c.args.texts.now c.enter_over.new.stack.items c.args.stack.now.items c.enter_over.result
    c.in-Attribute.is c.in_ok-name-in-Attribute.ensures c.enter_over.ensures.means

pub returns-in-Item-clause-means : goal.returns-in-Item-clause-means
returns-in-Item-clause-means c =
    item_augmented c.args.env c.args.op c.args.right c.args.target.now c.in-Item.receiver c.in-Item.key c.args.store.now.cells c.args.texts.now c.enter_over-in-Item.new.stack.items c.args.stack.now.items c.enter_over-in-Item.result
    c.in-Item.is c.enter_over-in-Item.ensures.means
