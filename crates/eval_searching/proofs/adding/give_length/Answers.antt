use Rattle.eval_searching.proofs.AddLaws.{not_added}
use Rattle.eval_searching.proofs.adding.give_length.Goals as goal

pub returns-in-Err-clause-means : goal.returns-in-Err-clause-means
returns-in-Err-clause-means c = not_added c.args.list c.args.other c.args.completion c.told_length.result c.in-Err.next c.args.store.now.cells c.args.stack.now.items c.told_length.ensures.told c.in-Err.is
