use Rattle.std.proofs.Common.{ap}
use Rattle.eval_instances.proofs.CallLemmas.{means_as}
use Rattle.object_operations.specs.declared.operation.Operation.{Operation}
use Rattle.language_rules.specs.Going.{asks}
use Rattle.eval_instances.specs.Methods.{goes_on}
use Rattle.eval_instances.proofs.calling.call.Goals as goal

pub returns-clause-means : goal.returns-clause-means
returns-clause-means c =
    means_as (asks c.in_ok-operation.operation (goes_on c.args.after)) _ c.call_over.result c.call_over.new.stack.items c.args.stack.now.items (ap (λ (o : Operation). asks o (goes_on c.args.after)) c.in_ok-operation.ensures) c.call_over.ensures.means
