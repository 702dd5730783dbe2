use Rattle.std.proofs.Common.{◌∷◌, []}
use Rattle.object_operations.specs.declared.operation.Operation.TheVariants as operation
use Rattle.eval_frames.specs.declared.frame.Frame.TheVariants as frame
use Rattle.eval_frames.specs.declared.frame.StatementFrame.TheVariants as statement_frame
use Rattle.eval_targets.proofs.OldValues.{operates_as}
use Rattle.eval_targets.proofs.augmenting.ask_for_name.Goals as goal

pub returns-clause-means : goal.returns-clause-means
returns-clause-means c =
    operates_as c.in_ok-operation.operation (operation.Special c.args.receiver c.args.special (c.args.argument ∷ [])) (frame.Statement (statement_frame.BindName c.args.env c.args.name)) c.operate_over.new.stack.items c.args.stack.now.items c.operate_over.result
    c.in_ok-operation.ensures c.operate_over.ensures.means
