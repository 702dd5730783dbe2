use Rattle.object_operations.specs.declared.operation.Operation.{Operation}
use Rattle.std.proofs.Common.{ap, ◌∙◌}
use Rattle.side_trees.specs.Trees.{bind}
use Rattle.language_rules.specs.Chains.{opposite}
use Rattle.language_rules.specs.Going.{on_value}
use Rattle.language_rules.specs.PlainItems.{contains_in}
use Rattle.eval_frames.specs.declared.frame.Frame.TheVariants as frame
use Rattle.eval_frames.specs.Meaning.{operates_over}
use Rattle.eval_frames.specs.declared.object_frames.OperationFrame.TheVariants as operation_frame
use Rattle.eval_exprs.proofs.Moving.{means_as}
use Rattle.eval_exprs.proofs.Objects.{other_container_asked}
use Rattle.eval_exprs.proofs.links.ask_other_container.Goals as goal

pub returns-clause-means : goal.returns-clause-means
returns-clause-means c = means_as c.ask_over.result c.ask_over.new.stack.items c.args.stack.now.items (operates_over c.in_ok-operation.operation (frame.Operation operation_frame.Opposite)) (bind (contains_in c.args.container c.args.part) (on_value opposite)) (ap (λ (o : Operation). operates_over o (frame.Operation operation_frame.Opposite)) c.in_ok-operation.ensures ∙ other_container_asked c.args.container c.args.part c.requires) c.ask_over.ensures.means
