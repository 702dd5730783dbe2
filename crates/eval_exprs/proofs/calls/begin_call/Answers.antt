use Rattle.eval_exprs.proofs.Cases.{builtin_begun, callee_begun}
use Rattle.eval_exprs.proofs.calls.begin_call.Goals as goal

pub returns-in_ok-name-in-Some-clause-means : goal.returns-in_ok-name-in-Some-clause-means
returns-in_ok-name-in-Some-clause-means c = builtin_begun c.call_builtin.result c.call_builtin.new.stack.items c.args.stack.now.items c.args.store.now.cells c.args.texts.now c.args.env c.args.callee c.args.arguments.now c.builtin_at.result c.in-Some.function c.in_ok-name-in-Some.name c.builtin_at.ensures c.in-Some.is c.in_ok-name-in-Some.ensures c.call_builtin.ensures.means

pub returns-in-None-clause-means : goal.returns-in-None-clause-means
returns-in-None-clause-means c = callee_begun c.begin_callee.result c.begin_callee.new.stack.items c.args.stack.now.items c.args.store.now.cells c.args.texts.now c.args.env c.args.callee c.args.arguments.now c.builtin_at.result c.builtin_at.ensures c.in-None.is c.begin_callee.ensures.means
