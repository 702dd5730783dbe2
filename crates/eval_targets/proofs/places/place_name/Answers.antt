use Rattle.side_trees.specs.Trees.{Return}
use Rattle.language_rules.specs.Going.{done}
use Rattle.language_rules.specs.Names.{binds_name}
use Rattle.eval_targets.proofs.Settling.{name_not_bound}
use Rattle.eval_targets.proofs.places.place_name.Goals as goal

pub returns-in-Err : goal.returns-in-Err
returns-in-Err c = record {
  placed = name_not_bound c.args.env (binds_name c.args.env c.args.name c.args.value (Return done)) c.args.store.now c.bind_name.new.store c.args.texts.now c.bind_name.result c.in-Err.end c.in-Err.is c.bind_name.ensures.comes c.bind_name.ensures.kept;
}
