use Rattle.std.proofs.Common.{[], codes}
use Rattle.eval_instances.proofs.CallLemmas.{method_called, method_missing}
use Rattle.language_rules.specs.Printing.{instance_repr, text_result}
use Rattle.eval_instances.proofs.printing.str_of_instance.Goals as goal

pub returns-in-Some-clause-means : goal.returns-in-Some-clause-means
returns-in-Some-clause-means c =
    method_called c.args.store.now.cells c.args.number (codes "__str__") ([]) (text_result) (instance_repr c.args.number) c.in-Some.callee.now c.call.result c.call.new.stack.items c.args.stack.now.items c.in-Some.ensures c.call.ensures.means

pub returns-in-None-clause-means : goal.returns-in-None-clause-means
returns-in-None-clause-means c =
    method_missing c.args.store.now.cells c.args.number (codes "__str__") ([]) (text_result) (instance_repr c.args.number) c.repr_of_instance.result c.repr_of_instance.new.stack.items c.args.stack.now.items c.in-None.ensures
    (c.repr_of_instance.ensures.means)
