use Rattle.std.proofs.Common.{List, subst}
use Rattle.object_operations.specs.declared.operation.Operation.TheVariants as operation
use Rattle.rp_base.specs.declared.value.Value.{Value}
use Rattle.language_rules.specs.Answers.{asked}
use Rattle.eval_frames.specs.declared.frame.Frame.{Frame}
use Rattle.eval_frames.specs.Meaning.{Means}
use Rattle.eval_texts.proofs.StackLaws.{item_asked}
use Rattle.eval_texts.proofs.waiting.ask_object.Goals as goal

pub returns-clause-means : goal.returns-clause-means
returns-clause-means c = λ f made next s same.
    item_asked c.args.item.now c.args.frame f made next s c.operate.result c.push.new.self.items c.args.stack.now.items c.requires same c.in_ok-push.ensures.items
    (subst (λ (v : Value). (stack : List Frame) → Means stack c.operate.result (asked (operation.Repr v)) stack) c.in_ok-copy.ensures c.operate.ensures.means)
