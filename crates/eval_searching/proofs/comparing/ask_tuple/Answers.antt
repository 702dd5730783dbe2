use Rattle.eval_searching.proofs.FoundLaws.{equal_asked, pair_tuple, pair_uneven}
use Rattle.eval_searching.proofs.comparing.ask_tuple.Goals as goal

pub returns-in-Uneven-clause-means : goal.returns-in-Uneven-clause-means
returns-in-Uneven-clause-means c = pair_uneven c.args.pair c.args.length c.args.position c.args.item.now c.args.value.now c.in_ok-equal_values.field-0 c.args.stack.now.items c.requires.apart c.in-Uneven.is c.in_ok-equal_values.ensures

pub ask_within_tuples-requires : goal.ask_within_tuples-requires
ask_within_tuples-requires c = (equal_asked c.args.item.now c.args.value.now c.in_ok-equal_values.field-0 c.in-Asked.question c.in-Asked.is c.in_ok-equal_values.ensures).1

pub returns-in-Asked-clause-means : goal.returns-in-Asked-clause-means
returns-in-Asked-clause-means c = pair_tuple c.args.pair c.args.length c.args.position c.args.item.now c.args.value.now c.in_ok-equal_values.field-0 c.in-Asked.question c.ask_within_tuples.result c.ask_within_tuples.new.stack.items c.args.stack.now.items c.requires.apart c.in-Asked.is c.in_ok-equal_values.ensures c.ask_within_tuples.ensures.pair
