use Rattle.std.proofs.Common.{sym}
use Rattle.language_rules.specs.Operators.{binary_rule, object_rule, special_for, unasked_rule}
use Rattle.eval_exprs.proofs.Moving.{each_at_as}
use Rattle.eval_exprs.proofs.Objects.{object_beside, object_operates}
use Rattle.eval_exprs.proofs.operating.give_binary.Goals as goal

pub returns-then-is_reference-clause-means : goal.returns-then-is_reference-clause-means
returns-then-is_reference-clause-means c = each_at_as c.operate_on_object.result c.args.store.now.cells (object_rule (special_for c.args.op) c.args.op c.args.left c.args.right) (binary_rule c.args.op c.args.left c.args.right) (object_operates c.args.op c.args.left c.args.right (sym c.if-is_reference.ensures)) c.operate_on_object.ensures.means

pub returns-then-is_reference-2-clause-means : goal.returns-then-is_reference-2-clause-means
returns-then-is_reference-2-clause-means c = each_at_as c.decide_unasked.result c.args.store.now.cells (unasked_rule c.args.op c.args.left c.args.right) (binary_rule c.args.op c.args.left c.args.right) (object_beside c.args.op c.args.left c.args.right (sym c.if-is_reference.ensures) (sym c.if-is_reference-2.ensures)) c.decide_unasked.ensures.means
