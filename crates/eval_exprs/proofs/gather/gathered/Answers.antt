use Rattle.eval_frames.specs.declared.frame.Gathering.TheVariants as gathering
use Rattle.eval_frames.specs.Meaning.{gathers}
use Rattle.eval_exprs.proofs.Cases.{at_gathering}
use Rattle.eval_exprs.proofs.Moving.{at_cells, over_one}
use Rattle.eval_exprs.proofs.gather.gathered.Goals as goal

pub returns-in-Tuple-clause-means : goal.returns-in-Tuple-clause-means
returns-in-Tuple-clause-means c = at_gathering c.tuple.result c.args.stack.now.items c.args.stack.now.items c.args.store.now.cells c.args.values c.args.gathering gathering.Tuple c.in-Tuple.is (at_cells c.tuple.result c.args.stack.now.items c.args.stack.now.items c.args.store.now.cells (gathers gathering.Tuple c.args.values) (over_one c.tuple.result c.args.stack.now.items (gathers gathering.Tuple c.args.values) c.tuple.ensures.means))

pub returns-in-Raise-clause-means : goal.returns-in-Raise-clause-means
returns-in-Raise-clause-means c = at_gathering c.raise.result c.args.stack.now.items c.args.stack.now.items c.args.store.now.cells c.args.values c.args.gathering (gathering.Raise c.in-Raise.kind) c.in-Raise.is (at_cells c.raise.result c.args.stack.now.items c.args.stack.now.items c.args.store.now.cells (gathers (gathering.Raise c.in-Raise.kind) c.args.values) (over_one c.raise.result c.args.stack.now.items (gathers (gathering.Raise c.in-Raise.kind) c.args.values) c.raise.ensures.means))

pub returns-in-List-clause-means : goal.returns-in-List-clause-means
returns-in-List-clause-means c = at_gathering c.new_list.result c.args.stack.now.items c.args.stack.now.items c.args.store.now.cells c.args.values c.args.gathering gathering.List c.in-List.is (at_cells c.new_list.result c.args.stack.now.items c.args.stack.now.items c.args.store.now.cells (gathers gathering.List c.args.values) (over_one c.new_list.result c.args.stack.now.items (gathers gathering.List c.args.values) c.new_list.ensures.means))

pub returns-in-Dict-clause-means : goal.returns-in-Dict-clause-means
returns-in-Dict-clause-means c = at_gathering c.new_dict.result c.args.stack.now.items c.args.stack.now.items c.args.store.now.cells c.args.values c.args.gathering gathering.Dict c.in-Dict.is (at_cells c.new_dict.result c.args.stack.now.items c.args.stack.now.items c.args.store.now.cells (gathers gathering.Dict c.args.values) (over_one c.new_dict.result c.args.stack.now.items (gathers gathering.Dict c.args.values) c.new_dict.ensures.means))
