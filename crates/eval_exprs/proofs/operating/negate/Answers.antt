use Rattle.object_operations.specs.declared.operation.Operation.{Operation}
use Rattle.language_rules.specs.Answers.{asked}
use Rattle.std.proofs.Common.{ap, sym, ◌∙◌}
use Rattle.rp_base.specs.declared.operators.UnaryOp.TheVariants as unary_op
use Rattle.language_rules.specs.Operators.{unary_rule}
use Rattle.eval_exprs.proofs.Moving.{next_as}
use Rattle.eval_exprs.proofs.Objects.{negation_asked}
use Rattle.eval_exprs.proofs.operating.negate.Goals as goal

pub returns-then-is_reference-clause-means : goal.returns-then-is_reference-clause-means
returns-then-is_reference-clause-means c = next_as c.operate.result (asked c.special.result) (unary_rule unary_op.Neg c.args.value) (ap (λ (o : Operation). asked o) c.special.ensures ∙ negation_asked c.args.value (sym c.if-is_reference.ensures)) c.operate.ensures.means
