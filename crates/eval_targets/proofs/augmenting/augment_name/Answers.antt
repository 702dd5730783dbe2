use Rattle.side_trees.specs.Trees.{Return}
use Rattle.language_rules.specs.Going.{done}
use Rattle.language_rules.specs.Names.{binds_name}
use Rattle.language_rules.specs.Targets.{augments}
use Rattle.eval_targets.proofs.NameValues.{name_begun, name_left}
use Rattle.eval_targets.proofs.augmenting.augment_name.Goals as goal

pub returns-in_ok-name-in-Ok-clause-means : goal.returns-in_ok-name-in-Ok-clause-means
returns-in_ok-name-in-Ok-clause-means c =
    name_begun c.args.env c.args.op c.args.name.now c.as_str.result.now c.in_ok-name-in-Ok.name c.args.right c.in-Ok.old c.args.store.now.cells c.args.texts.now c.enter_over.new.stack.items c.args.stack.now.items c.enter_over.result
    c.as_str.ensures c.in_ok-name-in-Ok.ensures c.in-Ok.ensures c.enter_over.ensures.means

pub returns-in-Err-clause-means : goal.returns-in-Err-clause-means
returns-in-Err-clause-means c =
    name_left c.args.env c.args.name.now c.as_str.result.now (λ old. augments c.args.env c.args.op c.args.right old (λ v. binds_name c.args.env c.args.name.now v (Return done))) c.in-Err.end c.read_name.result c.args.store.now.cells c.args.texts.now c.args.stack.now.items c.answered.result
    c.as_str.ensures c.in-Err.is c.read_name.ensures c.answered.ensures.means
