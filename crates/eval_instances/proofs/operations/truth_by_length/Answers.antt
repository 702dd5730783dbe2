use Rattle.std.proofs.Common.{[], codes, true, Ok}
use Rattle.eval_instances.proofs.CallLemmas.{anywhere, method_called, method_missing}
use Rattle.language_rules.specs.Answers.{gives}
use Rattle.language_rules.specs.Going.{boolean}
use Rattle.language_rules.specs.Lengths.{gives_filled, on_length}
use Rattle.eval_instances.proofs.operations.truth_by_length.Goals as goal

pub returns-in-Some-clause-means : goal.returns-in-Some-clause-means
returns-in-Some-clause-means c =
    method_called c.args.store.now.cells c.args.number (codes "__len__") ([]) (on_length gives_filled) (gives (boolean true)) c.in-Some.callee.now c.call.result c.call.new.stack.items c.args.stack.now.items c.in-Some.ensures c.call.ensures.means

pub returns-in-None-clause-means : goal.returns-in-None-clause-means
returns-in-None-clause-means c =
    method_missing c.args.store.now.cells c.args.number (codes "__len__") ([]) (on_length gives_filled) (gives (boolean true)) (Ok c.give_truth.result) c.args.stack.now.items c.args.stack.now.items c.in-None.ensures
    (anywhere c.args.store.now.cells (gives (boolean true)) (Ok c.give_truth.result) c.args.stack.now.items c.give_truth.ensures.means)
