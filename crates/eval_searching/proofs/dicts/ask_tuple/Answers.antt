use Rattle.eval_searching.proofs.FoundLaws.{equal_asked, value_tuple, value_uneven}
use Rattle.eval_searching.proofs.dicts.ask_tuple.Goals as goal

pub returns-in-Uneven-clause-means : goal.returns-in-Uneven-clause-means
returns-in-Uneven-clause-means c = value_uneven c.args.dict c.args.shape c.args.at c.args.wanted c.args.value.now c.in_ok-equal_values.field-0 c.args.stack.now.items c.in-Uneven.is c.in_ok-equal_values.ensures

pub ask_within_tuples-requires : goal.ask_within_tuples-requires
ask_within_tuples-requires c = (equal_asked c.args.wanted c.args.value.now c.in_ok-equal_values.field-0 c.in-Asked.question c.in-Asked.is c.in_ok-equal_values.ensures).1

pub returns-in-Asked-clause-means : goal.returns-in-Asked-clause-means
returns-in-Asked-clause-means c = value_tuple c.args.dict c.args.shape c.args.at c.args.wanted c.args.value.now c.in_ok-equal_values.field-0 c.in-Asked.question c.ask_within_tuples.result c.ask_within_tuples.new.stack.items c.args.stack.now.items c.in-Asked.is c.in_ok-equal_values.ensures c.ask_within_tuples.ensures.means
