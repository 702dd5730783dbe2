use Rattle.eval_searching.specs.Compared.{told_end}
use Rattle.eval_searching.proofs.CompareLaws.{as_long_still}
use Rattle.eval_searching.proofs.comparing.end_by.Goals as goal

pub returns-in-None-clause-means : goal.returns-in-None-clause-means
returns-in-None-clause-means c = as_long_still c.args.store.now.cells c.args.pair.now.list c.args.length (told_end c.args.pair.now.op c.args.length c.args.equal c.args.told) c.changed.result c.tell_end.result c.changed.ensures c.in-None.is c.tell_end.ensures.means
