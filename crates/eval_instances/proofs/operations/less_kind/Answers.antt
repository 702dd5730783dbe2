use Rattle.std.proofs.Common.{Bool, true, false, sym, ap, ◌∙◌}
use Rattle.eval_instances.proofs.CallLemmas.{at_once, same_at_once}
use Rattle.language_rules.specs.Operators.{unsupported}
use Rattle.language_rules.specs.Arithmetic.{less_instance}
use Rattle.eval_instances.specs.Methods.{less_if}
use Rattle.eval_instances.proofs.operations.less_kind.Goals as goal

pub returns-then-is_view-clause-means : goal.returns-then-is_view-clause-means
returns-then-is_view-clause-means c =
    same_at_once c.args.store.now.cells (less_if c.args.number true) (less_instance c.args.number c.args.kind) c.less_view.result (ap (less_if c.args.number) (sym c.if-is_view.true) ∙ sym (c.is_view.ensures c.args.number)) c.less_view.ensures.means

pub returns-else-is_view-clause-means : goal.returns-else-is_view-clause-means
returns-else-is_view-clause-means c =
    same_at_once c.args.store.now.cells unsupported (less_instance c.args.number c.args.kind) c.refuse.result (ap (less_if c.args.number) (sym c.if-is_view.false) ∙ sym (c.is_view.ensures c.args.number)) (at_once c.args.store.now.cells unsupported c.refuse.result c.refuse.ensures.means)
