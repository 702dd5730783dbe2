use Rattle.eval_searching.proofs.CompareLaws.{pair_referring}
use Rattle.eval_searching.proofs.comparing.ask_referring.Goals as goal

pub returns-clause-means : goal.returns-clause-means
returns-clause-means c = pair_referring c.args.pair c.args.length c.args.position c.args.item.now c.in_ok-item.item c.args.value.now c.ask_found.result c.ask_found.new.stack.items c.args.stack.now.items c.requires.apart c.in_ok-item.ensures c.ask_found.ensures.pair
