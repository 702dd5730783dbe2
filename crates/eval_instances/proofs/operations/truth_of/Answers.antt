use Rattle.std.proofs.Common.{[], codes}
use Rattle.eval_instances.proofs.CallLemmas.{method_called, method_missing}
use Rattle.language_rules.specs.Lengths.{gives_truth}
use Rattle.eval_instances.specs.Methods.{true_by_length}
use Rattle.eval_instances.proofs.operations.truth_of.Goals as goal

pub returns-in-Some-clause-means : goal.returns-in-Some-clause-means
returns-in-Some-clause-means c =
    method_called c.args.store.now.cells c.args.number (codes "__bool__") ([]) (gives_truth) (true_by_length c.args.number) c.in-Some.callee.now c.call.result c.call.new.stack.items c.args.stack.now.items c.in-Some.ensures c.call.ensures.means

pub returns-in-None-clause-means : goal.returns-in-None-clause-means
returns-in-None-clause-means c =
    method_missing c.args.store.now.cells c.args.number (codes "__bool__") ([]) (gives_truth) (true_by_length c.args.number) c.truth_by_length.result c.truth_by_length.new.stack.items c.args.stack.now.items c.in-None.ensures
    (c.truth_by_length.ensures.means)
