use Rattle.std.proofs.Common.{length}
use Rattle.language_rules.specs.Targets.{assigns_each}
use Rattle.eval_draining.proofs.Counting.{miscounted, well_counted}
use Rattle.eval_draining.proofs.finishing.unpack.Goals as goal

pub returns-then-has_count-clause-means : goal.returns-then-has_count-clause-means
returns-then-has_count-clause-means c = well_counted c.assign_all.result c.args.stack.now.items c.assign_all.new.stack.items c.args.store.now.cells c.assign_all.new.store.cells c.args.texts.now c.has_count.result (length c.args.targets) c.len.result c.as_slice.result.now c.args.items (assigns_each c.args.env c.args.targets) c.has_count.ensures c.as_slice.ensures c.len.ensures c.if-has_count.true c.assign_all.ensures.means

pub returns-else-has_count-clause-means : goal.returns-else-has_count-clause-means
returns-else-has_count-clause-means c = miscounted c.fail.result c.args.stack.now.items c.args.store.now.cells c.args.texts.now c.has_count.result (length c.args.targets) c.len.result c.as_slice.result.now c.args.items (assigns_each c.args.env c.args.targets) c.has_count.ensures c.as_slice.ensures c.len.ensures c.if-has_count.false c.fail.ensures.means
