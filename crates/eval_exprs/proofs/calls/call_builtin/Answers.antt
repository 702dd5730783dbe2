use Rattle.eval_exprs.proofs.Cases.{called, called_by_name}
use Rattle.eval_exprs.proofs.calls.call_builtin.Goals as goal

pub returns-in-Some-clause-means : goal.returns-in-Some-clause-means
returns-in-Some-clause-means c = called_by_name c.call_with_handler.result c.call_with_handler.new.stack.items c.args.stack.now.items c.args.store.now.cells c.args.env c.args.function c.args.arguments.now c.args.name c.in-Some.name c.in-Some.is c.call_with_handler.ensures.means

pub returns-in-None-clause-means : goal.returns-in-None-clause-means
returns-in-None-clause-means c = called c.gather.result c.gather.new.stack.items c.args.stack.now.items c.args.store.now.cells c.args.env c.args.function c.args.arguments.now c.args.name c.in-None.is c.gather.ensures.means
