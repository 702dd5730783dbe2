use Rattle.object_operations.specs.declared.operation.Operation.{Operation}
use Rattle.language_rules.specs.Answers.{asked}
use Rattle.std.proofs.Common.{ap, sym, ◌∙◌}
use Rattle.language_rules.specs.PlainItems.{item_of}
use Rattle.eval_exprs.proofs.Moving.{next_as}
use Rattle.eval_exprs.proofs.Objects.{item_asked}
use Rattle.eval_exprs.proofs.operating.give_key.Goals as goal

pub returns-in_ok-special_with-clause-means : goal.returns-in_ok-special_with-clause-means
returns-in_ok-special_with-clause-means c = next_as c.operate.result (asked c.in_ok-special_with.field-0) (item_of c.args.receiver c.args.key) (ap (λ (o : Operation). asked o) c.in_ok-special_with.ensures ∙ item_asked c.args.receiver c.args.key (sym c.if-is_reference.ensures)) c.operate.ensures.means
