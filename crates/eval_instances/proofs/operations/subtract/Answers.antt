use Rattle.std.proofs.Common.{◌∷◌, [], ap, codes, List}
use Rattle.rp_base.specs.declared.value.Value.{Value}
use Rattle.rp_base.specs.declared.value.Value.TheVariants as value
use Rattle.object_operations.specs.declared.operation.Operation.TheVariants as operation
use Rattle.language_rules.specs.Arithmetic.{gives_result, less_instance}
use Rattle.language_rules.specs.Going.{asks}
use Rattle.language_rules.specs.Kinds.{on_kind}
use Rattle.eval_instances.proofs.CallLemmas.{here, means_as, method_called, method_missing}
use Rattle.eval_instances.proofs.operations.subtract.Goals as goal

pub returns-in-Some-clause-means : goal.returns-in-Some-clause-means
returns-in-Some-clause-means c =
    method_called c.args.store.now.cells c.args.number (codes "__sub__") (c.args.x.now ∷ []) gives_result (on_kind c.args.x.now (less_instance c.args.number)) c.in-Some.callee.now c.call.result c.call.new.stack.items c.args.stack.now.items c.in-Some.ensures
    (means_as (asks (operation.Call c.in-Some.callee.now (value.Own c.args.number ∷ c.from_ref-arguments.result.now)) gives_result) (asks (operation.Call c.in-Some.callee.now (value.Own c.args.number ∷ c.args.x.now ∷ [])) gives_result) c.call.result c.call.new.stack.items c.args.stack.now.items
    (ap (λ (vs : List Value). asks (operation.Call c.in-Some.callee.now (value.Own c.args.number ∷ vs)) gives_result) c.from_ref-arguments.ensures.value) c.call.ensures.means)

pub returns-in-None-clause-means : goal.returns-in-None-clause-means
returns-in-None-clause-means c =
    method_missing c.args.store.now.cells c.args.number (codes "__sub__") (c.args.x.now ∷ []) gives_result (on_kind c.args.x.now (less_instance c.args.number)) c.less.result c.args.stack.now.items c.args.stack.now.items c.in-None.ensures
    (here c.args.store.now.cells (on_kind c.args.x.now (less_instance c.args.number)) c.less.result c.args.stack.now.items c.less.ensures.means)
