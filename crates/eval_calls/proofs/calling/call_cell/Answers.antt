use Rattle.std.proofs.Common.{sym}
use Rattle.eval_calls.specs.Closures.{calls_callee}
use Rattle.eval_calls.proofs.CallLemmas.{called_cell}
use Rattle.eval_calls.proofs.calling.call_cell.Goals as goal

pub returns-clause-means : goal.returns-clause-means
returns-clause-means c =
    called_cell c.args.number c.args.arguments c.in-Some.cell.now (calls_callee c.args.number c.in_ok-callee.callee c.args.arguments) c.args.texts.now c.args.store.now.cells c.call_callee.new.store.cells c.call_callee.new.stack.items c.args.stack.now.items c.call_callee.result
    (sym c.in-Some.ensures) (c.in_ok-callee.ensures c.args.number c.args.arguments) c.call_callee.ensures.means
