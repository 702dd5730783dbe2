use Rattle.std.proofs.Common.{length}
use Rattle.language_rules.specs.Targets.{assigns_each}
use Rattle.eval_targets.proofs.Settling.{wrong_count}
use Rattle.eval_targets.proofs.unpacking.settle_items.Goals as goal

pub returns-then-len-targets : goal.returns-then-len-targets
returns-then-len-targets c = record {
  settles = wrong_count (length c.args.targets.now) (assigns_each c.args.env c.args.targets.now) c.args.values c.len.result c.args.store.now.cells c.args.texts.now c.refuse.result c.if-len-targets.true c.len.ensures c.refuse.ensures;
}
