use Rattle.std.proofs.Common.{ℕ, List, IfOk, subst}
use Rattle.language_rules.specs.Codes.{AList}
use Rattle.language_rules.specs.Draining.{goes_over}
use Rattle.eval_frames.specs.Meaning.{Means}
use Rattle.eval_frames.specs.declared.loop_frames.Draining.TheVariants as draining
use Rattle.eval_frames.specs.LoopFrames.{drained}
use Rattle.eval_methods.proofs.DrainLemmas.{gone_over, not_gone_over}
use Rattle.eval_methods.proofs.draining.join_by_asking.Goals as goal

pub returns-in_ok-text-clause-means : goal.returns-in_ok-text-clause-means
returns-in_ok-text-clause-means c =
    gone_over c.args.store.now.cells c.args.parts.now c.in_ok-parts.parts (drained (draining.Join c.args.text.now)) c.kind_of_value-kind.result c.is_gone_over.result c.go_over.result c.go_over.new.stack.items c.args.stack.now.items
    (λ fixed texts. c.kind_of_value-kind.ensures fixed texts) c.is_gone_over.ensures c.if-is_gone_over.true c.in_ok-parts.ensures
    (subst (λ (t : List ℕ). IfOk c.go_over.result (λ n. Means c.go_over.new.stack.items n (goes_over AList c.in_ok-parts.parts (drained (draining.Join t))) c.args.stack.now.items)) c.in_ok-text.ensures c.go_over.ensures.means)

pub returns-else-is_gone_over-clause-means : goal.returns-else-is_gone_over-clause-means
returns-else-is_gone_over-clause-means c =
    not_gone_over c.args.store.now.cells c.args.parts.now (drained (draining.Join c.args.text.now)) c.kind_of_value-kind.result c.refuse_kind.result c.args.stack.now.items
    (λ fixed texts. c.kind_of_value-kind.ensures fixed texts) c.refuse_kind.ensures.means
