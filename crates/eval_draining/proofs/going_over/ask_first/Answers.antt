use Rattle.std.proofs.Common.{[], List, ap}
use Rattle.rp_base.specs.declared.value.Value.{Value}
use Rattle.language_rules.specs.Draining.{asks_next}
use Rattle.eval_frames.specs.declared.frame.Frame.TheVariants as frame
use Rattle.eval_frames.specs.declared.loop_frames.DrainFrame.TheVariants as drain_frame
use Rattle.eval_frames.specs.LoopFrames.{container}
use Rattle.eval_exprs.proofs.Moving.{anywhere_as, pushed}
use Rattle.eval_draining.proofs.going_over.ask_first.Goals as goal

pub returns-clause-means : goal.returns-clause-means
returns-clause-means c = pushed c.ask_next.result c.ask_next.new.stack.items c.args.stack.now.items c.push.new.self.items (frame.Drain (drain_frame.Drained c.args.draining)) (asks_next (container c.args.collection) c.args.iterator []) c.in_ok-push.ensures.items
    (anywhere_as c.ask_next.result c.ask_next.new.stack.items c.push.new.self.items (asks_next (container c.args.collection) c.args.iterator c.new-items.result) (asks_next (container c.args.collection) c.args.iterator []) (ap (λ (vs : List Value). asks_next (container c.args.collection) c.args.iterator vs) c.new-items.ensures) c.ask_next.ensures.means)
