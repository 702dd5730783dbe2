use Rattle.object_operations.specs.declared.operation.Operation.{Operation}
use Rattle.language_rules.specs.Answers.{asked}
use Rattle.std.proofs.Common.{ap, ◌∙◌}
use Rattle.language_rules.specs.PlainItems.{contains_in}
use Rattle.eval_exprs.proofs.Moving.{next_as}
use Rattle.eval_exprs.proofs.Objects.{container_asked}
use Rattle.eval_exprs.proofs.links.ask_container.Goals as goal

pub returns-clause-means : goal.returns-clause-means
returns-clause-means c = next_as c.operate.result (asked c.in_ok-special_with.field-0) (contains_in c.args.container c.args.part) (ap (λ (o : Operation). asked o) c.in_ok-special_with.ensures ∙ container_asked c.args.container c.args.part c.requires) c.operate.ensures.means
