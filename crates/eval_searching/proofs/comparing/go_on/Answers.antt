use Rattle.eval_searching.specs.Compared.{after_equal}
use Rattle.eval_searching.proofs.CompareLaws.{as_long}
use Rattle.eval_searching.proofs.comparing.go_on.Goals as goal

pub returns-in-None-clause-means : goal.returns-in-None-clause-means
returns-in-None-clause-means c = as_long c.args.store.now.cells c.args.pair.list c.args.length (after_equal c.args.pair c.args.length c.args.position c.args.equal) c.changed.result c.go_on_by.result c.go_on_by.new.stack.items c.args.stack.now.items c.changed.ensures c.in-None.is c.go_on_by.ensures.means
