use Rattle.eval_tuple_texts.proofs.TextLaws.{text_goes}
use Rattle.eval_tuple_texts.proofs.waiting.add.Goals as goal

pub returns-clause-means : goal.returns-clause-means
returns-clause-means c = text_goes c.args.levels c.args.text c.give_outcome.result c.give_outcome.new.stack.items c.args.stack.now.items c.in_ok-outcome.outcome c.in_ok-outcome.ensures c.give_outcome.ensures.means
