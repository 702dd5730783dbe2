use Rattle.std.proofs.Common.{[], ◌∷◌}
use Rattle.py_ast.specs.declared.builtin.Builtin.TheVariants as builtin
use Rattle.language_rules.specs.Builtins.{builtin_rule}
use Rattle.object_operations.specs.declared.operation.Operation.{Operation}
use Rattle.std.proofs.Common.{ap, ◌∙◌}
use Rattle.language_rules.specs.Answers.{asked}
use Rattle.eval_exprs.proofs.Moving.{next_as}
use Rattle.eval_exprs.proofs.Objects.{length_asked}
use Rattle.eval_exprs.proofs.builtins.length.Goals as goal

pub returns-clause-means : goal.returns-clause-means
returns-clause-means c = next_as c.operate.result (asked c.special.result) (builtin_rule builtin.Len (c.args.value ∷ [])) (ap (λ (o : Operation). asked o) c.special.ensures ∙ length_asked c.args.value c.requires) c.operate.ensures.means
