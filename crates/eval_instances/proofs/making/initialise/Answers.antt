use Rattle.std.proofs.Common.{codes, None, Some, sym}
use Rattle.eval_instances.proofs.CallLemmas.{anywhere, looked_called, looked_missing}
use Rattle.eval_instances.proofs.making.initialise.Goals as goal

pub returns-in-Some-clause-means : goal.returns-in-Some-clause-means
returns-in-Some-clause-means c =
    looked_called c.args.store.now.cells c.args.instance c.args.arguments.now c.in-Some.callee.now c.call.result c.call.new.stack.items c.args.stack.now.items c.in-Some.ensures c.call.ensures.means

pub returns-in-None-clause-means : goal.returns-in-None-clause-means
returns-in-None-clause-means c =
    looked_missing c.args.store.now.cells c.args.instance c.args.arguments.now c.without_init.result c.args.stack.now.items c.in-None.ensures c.without_init.ensures.means
