use Rattle.eval_tuple_texts.proofs.TextLaws.{asked_within}
use Rattle.eval_tuple_texts.proofs.waiting.ask_text.Goals as goal

pub returns-clause-means : goal.returns-clause-means
returns-clause-means c = λ s object. asked_within c.operate.result c.args.stack.now.items c.push.new.self.items c.args.levels c.args.object object c.in_ok-push.ensures.items c.operate.ensures.means s
