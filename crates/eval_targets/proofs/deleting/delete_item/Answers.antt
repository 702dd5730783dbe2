use Rattle.std.proofs.Common.{◌∷◌, []}
use Rattle.object_operations.specs.declared.operation.Operation.TheVariants as operation
use Rattle.object_operations.specs.declared.special.Special.TheVariants as special
use Rattle.eval_frames.specs.declared.frame.Frame.TheVariants as frame
use Rattle.eval_frames.specs.declared.target_frame.TargetFrame.TheVariants as target_frame
use Rattle.eval_targets.proofs.OldValues.{operates_as}
use Rattle.eval_targets.proofs.deleting.delete_item.Goals as goal

pub returns-clause-means : goal.returns-clause-means
returns-clause-means c =
    operates_as c.in_ok-operation.operation (operation.Special c.args.receiver special.DelItem (c.args.key ∷ [])) (frame.Target target_frame.Done) c.operate_over.new.stack.items c.args.stack.now.items c.operate_over.result
    c.in_ok-operation.ensures c.operate_over.ensures.means
