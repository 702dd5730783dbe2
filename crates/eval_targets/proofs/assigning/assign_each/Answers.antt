use Rattle.std.proofs.Common.{reverse}
use Rattle.language_rules.specs.Targets.{assigns_each}
use Rattle.eval_targets.proofs.Settling.{settled_next}
use Rattle.eval_targets.proofs.assigning.assign_each.Goals as goal

pub returns-clause-means : goal.returns-clause-means
returns-clause-means c =
    settled_next (assigns_each c.args.env (reverse c.args.targets) (reverse c.args.values)) c.in_ok-assigning.assigning c.args.store.now.cells c.settle_each.new.store.cells c.args.texts.now c.go_on.new.stack.items c.args.stack.now.items c.go_on.result
    c.in_ok-assigning.ensures.settles c.go_on.ensures.means
