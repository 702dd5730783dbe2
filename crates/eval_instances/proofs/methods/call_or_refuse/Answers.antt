use Rattle.eval_instances.proofs.CallLemmas.{anywhere, method_called, method_missing}
use Rattle.eval_instances.specs.Methods.{goes_on}
use Rattle.language_rules.specs.Going.{type_error}
use Rattle.eval_instances.proofs.methods.call_or_refuse.Goals as goal

pub returns-in-Some-clause-means : goal.returns-in-Some-clause-means
returns-in-Some-clause-means c =
    method_called c.args.store.now.cells c.args.number (c.args.name.now) (c.args.arguments.now) (goes_on c.args.after) (type_error c.args.refusal.now) c.in-Some.callee.now c.call.result c.call.new.stack.items c.args.stack.now.items c.in-Some.ensures c.call.ensures.means

pub returns-in-None-clause-means : goal.returns-in-None-clause-means
returns-in-None-clause-means c =
    method_missing c.args.store.now.cells c.args.number (c.args.name.now) (c.args.arguments.now) (goes_on c.args.after) (type_error c.args.refusal.now) c.refuse.result c.args.stack.now.items c.args.stack.now.items c.in-None.ensures
    (anywhere c.args.store.now.cells (type_error c.args.refusal.now) c.refuse.result c.args.stack.now.items c.refuse.ensures.means)
