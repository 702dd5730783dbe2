use Rattle.language_rules.specs.Targets.{assigns}
use Rattle.eval_targets.proofs.Settling.{settled_next}
use Rattle.eval_targets.proofs.assigning.assign.Goals as goal

pub returns-clause-means : goal.returns-clause-means
returns-clause-means c =
    settled_next (assigns c.args.env c.args.target c.args.value) c.in_ok-assigning.assigning c.args.store.now.cells c.settle.new.store.cells c.args.texts.now c.go_on.new.stack.items c.args.stack.now.items c.go_on.result
    c.in_ok-assigning.ensures.settles c.go_on.ensures.means
