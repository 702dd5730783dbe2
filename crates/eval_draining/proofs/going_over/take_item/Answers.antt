use Rattle.std.proofs.Common.{◌∙◌, ◌++◌, ◌∷◌, [], List, ap}
use Rattle.rp_base.specs.declared.value.Value.{Value}
use Rattle.language_rules.specs.Draining.{passes}
use Rattle.eval_frames.specs.LoopFrames.{container}
use Rattle.eval_draining.proofs.AskingNext.{beyond_limit, within}
use Rattle.eval_draining.proofs.going_over.take_item.Goals as goal

pub returns-in-None-clause-means : goal.returns-in-None-clause-means
returns-in-None-clause-means c = within c.ask_next.result c.ask_next.new.stack.items c.args.stack.now.items c.args.collection c.args.iterator (c.args.items ++ c.args.item ∷ []) c.push.new.self c.passed_limit.result c.in_ok-push.ensures.ok (c.passed_limit.ensures ∙ ap (λ (vs : List Value). passes (container c.args.collection) vs) c.as_slice.ensures) c.in-None.is c.ask_next.ensures.means

pub returns-in-Some-clause-means : goal.returns-in-Some-clause-means
returns-in-Some-clause-means c = λ s. beyond_limit c.args.stack.now.items c.args.collection c.args.iterator (c.args.items ++ c.args.item ∷ []) c.push.new.self c.passed_limit.result c.in-Some.beyond s c.in_ok-push.ensures.ok (c.passed_limit.ensures ∙ ap (λ (vs : List Value). passes (container c.args.collection) vs) c.as_slice.ensures) c.in-Some.is
