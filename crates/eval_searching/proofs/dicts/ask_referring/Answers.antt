use Rattle.eval_searching.proofs.ValueLaws.{search_asked}
use Rattle.eval_searching.proofs.dicts.ask_referring.Goals as goal

pub returns-clause-means : goal.returns-clause-means
returns-clause-means c = search_asked c.args.dict c.args.shape c.args.at c.args.wanted c.in_ok-copy.field-0 c.args.value.now c.ask_found.result c.ask_found.new.stack.items c.args.stack.now.items c.in_ok-copy.ensures c.ask_found.ensures.means
