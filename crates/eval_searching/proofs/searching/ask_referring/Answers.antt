use Rattle.eval_searching.proofs.StateLaws.{search_asked}
use Rattle.eval_searching.proofs.searching.ask_referring.Goals as goal

pub returns-clause-means : goal.returns-clause-means
returns-clause-means c = search_asked c.args.list c.args.at c.args.wanted c.in_ok-copy.field-0 c.args.item.now c.ask_found.result c.ask_found.new.stack.items c.args.stack.now.items c.in_ok-copy.ensures c.ask_found.ensures.means
