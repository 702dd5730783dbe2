use Rattle.side_trees.specs.Trees.{Return}
use Rattle.language_rules.specs.Going.{done}
use Rattle.language_rules.specs.Names.{binds_name}
use Rattle.eval_targets.proofs.Bindings.{not_bound}
use Rattle.eval_targets.proofs.assigning.bind_value.Goals as goal

pub returns-in-Err-clause-means : goal.returns-in-Err-clause-means
returns-in-Err-clause-means c =
    not_bound (binds_name c.args.env c.args.name c.args.value (Return done)) c.args.store.now c.bind_name.new.store c.args.texts.now c.in-Err.end c.bind_name.result c.answered.result
    c.in-Err.is c.bind_name.ensures.comes c.bind_name.ensures.kept c.answered.ensures.means
