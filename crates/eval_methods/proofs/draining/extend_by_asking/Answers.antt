use Rattle.std.proofs.Common.{false}
use Rattle.eval_frames.specs.declared.loop_frames.Draining.TheVariants as draining
use Rattle.eval_frames.specs.LoopFrames.{drained}
use Rattle.eval_methods.proofs.DrainLemmas.{gone_over, not_gone_over}
use Rattle.eval_methods.proofs.draining.extend_by_asking.Goals as goal

pub returns-in_ok-more-clause-means : goal.returns-in_ok-more-clause-means
returns-in_ok-more-clause-means c =
    gone_over c.args.store.now.cells c.args.more.now c.in_ok-more.more (drained (draining.Extend c.args.list false)) c.kind_of_value-kind.result c.is_gone_over.result c.go_over.result c.go_over.new.stack.items c.args.stack.now.items
    (λ fixed texts. c.kind_of_value-kind.ensures fixed texts) c.is_gone_over.ensures c.if-is_gone_over.true c.in_ok-more.ensures c.go_over.ensures.means

pub returns-else-is_gone_over-clause-means : goal.returns-else-is_gone_over-clause-means
returns-else-is_gone_over-clause-means c =
    not_gone_over c.args.store.now.cells c.args.more.now (drained (draining.Extend c.args.list false)) c.kind_of_value-kind.result c.refuse_kind.result c.args.stack.now.items
    (λ fixed texts. c.kind_of_value-kind.ensures fixed texts) c.refuse_kind.ensures.means
