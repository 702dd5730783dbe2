use Rattle.std.proofs.Common.{◌∙◌, ap}
use Rattle.language_rules.specs.Truth.{on_truth}
use Rattle.eval_frames.specs.declared.frame.Frame.TheVariants as frame
use Rattle.eval_frames.specs.Meaning.{decides, operates_over}
use Rattle.eval_exprs.proofs.Moving.{means_as}
use Rattle.eval_exprs.proofs.Objects.{truth_asked}
use Rattle.eval_exprs.proofs.testing.ask_truth.Goals as goal

pub returns-clause-means : goal.returns-clause-means
returns-clause-means c = means_as c.operate_over.result c.operate_over.new.stack.items c.args.stack.now.items (operates_over c.special-operation.result (frame.Truth c.args.decision c.args.value)) (on_truth c.args.value (decides c.args.decision c.args.value))
    (ap (λ o. operates_over o (frame.Truth c.args.decision c.args.value)) c.special-operation.ensures ∙ truth_asked c.args.value c.in_ok-copy.field-0 c.args.decision c.in_ok-copy.ensures c.requires) c.operate_over.ensures.means
