use Rattle.std.proofs.Common.{Ok}
use Rattle.object_operations.specs.declared.operation.Operation.TheVariants as operation
use Rattle.eval_frames.proofs.Operating.{pushed_over}
use Rattle.eval_frames.specs.declared.frame.Frame.TheVariants as frame
use Rattle.eval_frames.specs.declared.object_frames.PrintingFrame.TheVariants as printing_frame
use Rattle.print_output.proofs.PieceLaws.{text_asked}
use Rattle.print_output.proofs.printing.ask_object.Goals as goal

pub returns-clause-means : goal.returns-clause-means
returns-clause-means c =
    text_asked c.args.value c.args.waiting c.push.new.self.items c.args.stack.now.items (Ok c.operate.result) c.requires
    (pushed_over (operation.Str c.args.value) (frame.Printing (printing_frame.Print c.args.waiting)) c.operate.result c.args.stack.now.items c.push.new.self.items c.in_ok-push.ensures.items c.operate.ensures.means)
