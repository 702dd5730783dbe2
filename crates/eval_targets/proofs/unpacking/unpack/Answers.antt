use Rattle.std.proofs.Common.{length}
use Rattle.language_rules.specs.Targets.{assigns_each}
use Rattle.eval_targets.proofs.Settling.{unpacked_by_kind}
use Rattle.eval_targets.proofs.unpacking.unpack.Goals as goal

pub returns-in_default : goal.returns-in_default
returns-in_default c = record {
  settles = unpacked_by_kind c.args.value (length c.args.targets.now) (assigns_each c.args.env c.args.targets.now) c.kind_of_value-kind.result c.in_ok-items.field-0 c.args.store.now.cells c.args.texts.now c.unpack_by_kind.result
      c.in_ok-items.ensures c.in_default.is c.kind_of_value-kind.ensures c.unpack_by_kind.ensures;
}
