use Rattle.std.proofs.Common.{◌≡◌, IfOk, List, ℕ, subst}
use Rattle.eval_frames.specs.declared.frame.ExpressionFrame.TheVariants as expression_frame
use Rattle.eval_frames.specs.declared.frame.Frame.TheVariants as frame
use Rattle.eval_frames.specs.Meaning.{enters_over, meant}
use Rattle.eval_exprs.proofs.begin.enter_receiver.Goals as goal

pub returns-clause-means : goal.returns-clause-means
returns-clause-means c =
    subst (λ (word : List ℕ). IfOk c.enter_over.result (λ n. meant c.enter_over.new.stack.items n ≡ enters_over c.args.env c.args.object (frame.Expression (expression_frame.Attribute word)) c.args.stack.now.items))
    c.in_ok-copy.ensures c.enter_over.ensures.means
