use Rattle.std.proofs.Common.{refl}
use Rattle.eval_instances.specs.declared.calling.After.TheVariants as after
use Rattle.eval_frames.specs.declared.frame.Frame.TheVariants as frame
use Rattle.eval_frames.specs.declared.frame.Decision.TheVariants as decision
use Rattle.eval_frames.specs.declared.target_frame.TargetFrame.TheVariants as target_frame
use Rattle.eval_instances.proofs.CallLemmas.{over_frame, over_none}
use Rattle.eval_instances.proofs.calling.call_over.Goals as goal

pub returns-in-Answer-clause-means : goal.returns-in-Answer-clause-means
returns-in-Answer-clause-means c =
    over_none c.args.operation c.args.after c.operate.result c.args.stack.now.items c.in-Answer.is (c.operate.ensures.means c.args.stack.now.items)

pub returns-in-Done-clause-means : goal.returns-in-Done-clause-means
returns-in-Done-clause-means c =
    over_frame c.args.operation (frame.Target target_frame.Done) c.args.after after.Done c.operate_over.result c.operate_over.new.stack.items c.args.stack.now.items c.in-Done.is refl c.operate_over.ensures.means

pub returns-in-Truth-clause-means : goal.returns-in-Truth-clause-means
returns-in-Truth-clause-means c =
    over_frame c.args.operation (frame.Test decision.Bool) c.args.after after.Truth c.operate_over-in-Truth.result c.operate_over-in-Truth.new.stack.items c.args.stack.now.items c.in-Truth.is refl c.operate_over-in-Truth.ensures.means

pub returns-in-Method-clause-means : goal.returns-in-Method-clause-means
returns-in-Method-clause-means c =
    over_frame c.args.operation (frame.Method c.in-Method.frame) c.args.after (after.Method c.in-Method.frame) c.operate_over-in-Method.result c.operate_over-in-Method.new.stack.items c.args.stack.now.items c.in-Method.is refl c.operate_over-in-Method.ensures.means
