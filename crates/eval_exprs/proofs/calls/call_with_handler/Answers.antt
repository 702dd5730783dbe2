use Rattle.eval_exprs.proofs.Cases.{handler_passed, handler_read}
use Rattle.eval_exprs.proofs.calls.call_with_handler.Goals as goal

pub returns-in-Some-clause-means : goal.returns-in-Some-clause-means
returns-in-Some-clause-means c = handler_read c.begin_handler_name.result c.begin_handler_name.new.stack.items c.args.stack.now.items c.args.store.now.cells c.args.env c.args.function c.args.arguments.now c.args.name c.reading_for.result c.in-Some.reading c.reading_for.ensures c.in-Some.is c.begin_handler_name.ensures.means

pub returns-in-None-clause-means : goal.returns-in-None-clause-means
returns-in-None-clause-means c = handler_passed c.gather.result c.gather.new.stack.items c.args.stack.now.items c.args.store.now.cells c.args.env c.args.function c.args.arguments.now c.args.name c.reading_for.result c.reading_for.ensures c.in-None.is c.gather.ensures.means
