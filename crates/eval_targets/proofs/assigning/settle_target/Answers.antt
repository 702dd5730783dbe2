use Rattle.std.proofs.Common.{◌∙◌, ap, List, ℕ, sym}
use Rattle.py_ast.specs.declared.target.Target.TheVariants as target
use Rattle.language_rules.specs.Targets.{assigns_target}
use Rattle.eval_targets.proofs.Settling.{settled_as}
use Rattle.eval_targets.proofs.assigning.settle_target.Goals as goal

pub returns-in-Tuple : goal.returns-in-Tuple
returns-in-Tuple c = record {
  settles = settled_as (assigns_target c.args.env c.args.value) c.args.target.now (target.Tuple c.as_slice.result.now) c.args.store.now.cells c.unpack.new.store.cells c.args.texts.now c.unpack.result
      (c.in-Tuple.is ∙ ap (λ (ts : List ℕ). target.Tuple ts) (sym c.as_slice.ensures)) c.unpack.ensures.settles;
}
