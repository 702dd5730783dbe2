use Rattle.object_operations.specs.declared.operation.Operation.{Operation}
use Rattle.language_rules.specs.Answers.{asked}
use Rattle.std.proofs.Common.{ap, ◌∙◌}
use Rattle.std.proofs.Common.{Ok, Some, None}
use Rattle.language_rules.specs.Operators.{object_rule, special_for, unasked_rule}
use Rattle.eval_exprs.proofs.Moving.{each_at, each_at_as}
use Rattle.eval_exprs.proofs.Objects.{special_asked}
use Rattle.eval_exprs.proofs.operating.operate_on_object.Goals as goal

pub returns-in-None-clause-means : goal.returns-in-None-clause-means
returns-in-None-clause-means c = each_at_as c.decide_unasked.result c.args.store.now.cells (unasked_rule c.args.op c.args.left c.args.right) (object_rule (special_for c.args.op) c.args.op c.args.left c.args.right) (special_asked c.args.op c.args.left c.args.right c.special_for.result None c.special_for.ensures c.in-None.is) c.decide_unasked.ensures.means

pub returns-in_ok-special_with-in-Some-clause-means : goal.returns-in_ok-special_with-in-Some-clause-means
returns-in_ok-special_with-in-Some-clause-means c =
    each_at_as (Ok c.operate.result) c.args.store.now.cells (asked c.in_ok-special_with-in-Some.field-0) (object_rule (special_for c.args.op) c.args.op c.args.left c.args.right)
    (ap (λ (o : Operation). asked o) c.in_ok-special_with-in-Some.ensures ∙ special_asked c.args.op c.args.left c.args.right c.special_for.result (Some c.in-Some.special) c.special_for.ensures c.in-Some.is)
    (each_at (Ok c.operate.result) c.args.store.now.cells (asked c.in_ok-special_with-in-Some.field-0) c.operate.ensures.means)
