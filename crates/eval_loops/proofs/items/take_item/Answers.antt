use Rattle.eval_frames.specs.LoopFrames.{through_for}
use Rattle.eval_frames.specs.declared.loop_frames.ForFrame.TheVariants as for_frame
use Rattle.language_rules.specs.Targets.{assigns}
use Rattle.eval_loops.proofs.ForTurns.{item_taken}
use Rattle.eval_loops.proofs.items.take_item.Goals as goal

pub returns-clause-means : goal.returns-clause-means
returns-clause-means c =
    item_taken (assigns c.args.env c.args.target c.args.item) (through_for (for_frame.Target c.args.env c.args.target c.args.body c.args.iterator)) c.in_ok-assigning.assigning c.args.store.now.cells c.settle.new.store.cells c.args.texts.now c.go_on.new.stack.items c.args.stack.now.items c.go_on.result
    c.in_ok-assigning.ensures.settles c.go_on.ensures.means
