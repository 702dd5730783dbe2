use Rattle.std.proofs.Common.{IfOk, subst}
use Rattle.object_operations.specs.declared.operation.Operation.{Operation}
use Rattle.eval_frames.specs.declared.frame.Frame.TheVariants as frame
use Rattle.eval_frames.specs.declared.loop_frames.Collection.TheVariants as collection
use Rattle.eval_frames.specs.declared.loop_frames.DrainFrame.TheVariants as drain_frame
use Rattle.eval_frames.specs.Meaning.{Means, operates_over}
use Rattle.eval_methods.proofs.draining.go_over.Goals as goal

pub returns-clause-means : goal.returns-clause-means
returns-clause-means c =
    subst (λ (o : Operation). IfOk c.operate_over.result (λ n. Means c.operate_over.new.stack.items n (operates_over o (frame.Drain (drain_frame.Iterator collection.List c.args.draining))) c.args.stack.now.items))
    c.special.ensures c.operate_over.ensures.means
