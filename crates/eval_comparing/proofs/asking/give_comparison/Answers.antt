use Rattle.eval_frames.specs.ObjectFrames.{through_comparison}
use Rattle.eval_frames.specs.declared.object_frames.ComparisonFrame.TheVariants as comparison_frame
use Rattle.eval_frames.specs.declared.object_frames.ComparisonFrame.{ComparisonFrame}
use Rattle.std.proofs.Common.{sym, ap}
use Rattle.eval_comparing.proofs.Moving.{anywhere, anywhere_as, over_one}
use Rattle.eval_comparing.proofs.asking.give_comparison.Goals as goal

pub returns-in-Left-clause-means : goal.returns-in-Left-clause-means
returns-in-Left-clause-means c = anywhere_as c.give_left.result c.give_left.new.stack.items c.args.stack.now.items (through_comparison (comparison_frame.Left c.in-Left.op c.in-Left.left c.in-Left.right) c.args.completion) (through_comparison c.args.frame c.args.completion) (ap (λ (f : ComparisonFrame). through_comparison f c.args.completion) (sym c.in-Left.is)) c.give_left.ensures.means

pub returns-in-Right-clause-means : goal.returns-in-Right-clause-means
returns-in-Right-clause-means c = anywhere_as c.give_right.result c.args.stack.now.items c.args.stack.now.items (through_comparison (comparison_frame.Right c.in-Right.op c.in-Right.left c.in-Right.right) c.args.completion) (through_comparison c.args.frame c.args.completion) (ap (λ (f : ComparisonFrame). through_comparison f c.args.completion) (sym c.in-Right.is)) (anywhere c.give_right.result c.args.stack.now.items c.args.stack.now.items (through_comparison (comparison_frame.Right c.in-Right.op c.in-Right.left c.in-Right.right) c.args.completion) (over_one c.give_right.result c.args.stack.now.items (through_comparison (comparison_frame.Right c.in-Right.op c.in-Right.left c.in-Right.right) c.args.completion) c.give_right.ensures.means))
