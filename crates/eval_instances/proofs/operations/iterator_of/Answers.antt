use Rattle.std.proofs.Common.{[], codes}
use Rattle.eval_instances.proofs.CallLemmas.{here, method_called, method_missing}
use Rattle.language_rules.specs.Iterating.{gives_iterator, would_index}
use Rattle.language_rules.specs.Kinds.{on_kind}
use Rattle.eval_instances.proofs.operations.iterator_of.Goals as goal

pub returns-in-Some-clause-means : goal.returns-in-Some-clause-means
returns-in-Some-clause-means c =
    method_called c.args.store.now.cells c.args.number (codes "__iter__") ([]) (λ v. on_kind v (gives_iterator v)) (would_index c.args.number) c.in-Some.callee.now c.call.result c.call.new.stack.items c.args.stack.now.items c.in-Some.ensures c.call.ensures.means

pub returns-in-None-clause-means : goal.returns-in-None-clause-means
returns-in-None-clause-means c =
    method_missing c.args.store.now.cells c.args.number (codes "__iter__") ([]) (λ v. on_kind v (gives_iterator v)) (would_index c.args.number) c.would_index.result c.args.stack.now.items c.args.stack.now.items c.in-None.ensures
    (here c.args.store.now.cells (would_index c.args.number) c.would_index.result c.args.stack.now.items c.would_index.ensures.means)
