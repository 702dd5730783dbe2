use Rattle.eval_tuple_texts.proofs.TextLaws.{tuple_begun}
use Rattle.eval_tuple_texts.proofs.levels.begin.Goals as goal

pub returns-in-Tuple-clause-turns : goal.returns-in-Tuple-clause-turns
returns-in-Tuple-clause-turns c = tuple_begun c.enter.result c.args.levels.now c.enter.new.levels c.args.value c.in-Tuple.items c.in-Tuple.is c.enter.ensures.turns
