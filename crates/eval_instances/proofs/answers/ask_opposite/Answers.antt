use Rattle.std.proofs.Common.{◌∙◌, ap}
use Rattle.eval_instances.proofs.CallLemmas.{means_as, truth_asked}
use Rattle.eval_frames.specs.declared.frame.Frame.TheVariants as frame
use Rattle.eval_frames.specs.declared.frame.Decision.TheVariants as decision
use Rattle.object_operations.specs.declared.operation.Operation.{Operation}
use Rattle.language_rules.specs.Truth.{on_truth}
use Rattle.eval_frames.specs.Meaning.{decides, operates_over}
use Rattle.eval_instances.proofs.answers.ask_opposite.Goals as goal

pub returns-clause-means : goal.returns-clause-means
returns-clause-means c =
    means_as (operates_over c.special-operation.result (frame.Truth decision.Not c.args.value)) (on_truth c.args.value (decides decision.Not c.args.value)) c.operate_over.result c.operate_over.new.stack.items c.args.stack.now.items
    (ap (λ (o : Operation). operates_over o (frame.Truth decision.Not c.args.value)) c.special-operation.ensures ∙ truth_asked c.args.value c.in_ok-copy.field-0 c.in_ok-copy.ensures c.requires) c.operate_over.ensures.means
