use Rattle.std.proofs.Common.{[], ◌∷◌, codes, ap, List}
use Rattle.eval_instances.proofs.CallLemmas.{here, means_as, method_called, method_missing}
use Rattle.rp_base.specs.declared.value.Value.TheVariants as value
use Rattle.object_operations.specs.declared.operation.Operation.TheVariants as operation
use Rattle.language_rules.specs.Going.{asks}
use Rattle.rp_base.specs.declared.value.Value.{Value}
use Rattle.language_rules.specs.Answers.{gives}
use Rattle.language_rules.specs.Containing.{would_drain}
use Rattle.language_rules.specs.Going.{boolean}
use Rattle.language_rules.specs.Truth.{on_truth}
use Rattle.eval_instances.proofs.operations.contains.Goals as goal

pub returns-in-Some-clause-means : goal.returns-in-Some-clause-means
returns-in-Some-clause-means c =
    method_called c.args.store.now.cells c.args.number (codes "__contains__") (c.args.x.now ∷ []) (λ v. on_truth v (λ b. gives (boolean b))) (would_drain c.args.number) c.in-Some.callee.now c.call.result c.call.new.stack.items c.args.stack.now.items c.in-Some.ensures
    (means_as (asks (operation.Call c.in-Some.callee.now (value.Own c.args.number ∷ c.from_ref-arguments.result.now)) (λ v. on_truth v (λ b. gives (boolean b)))) (asks (operation.Call c.in-Some.callee.now (value.Own c.args.number ∷ c.args.x.now ∷ [])) (λ v. on_truth v (λ b. gives (boolean b)))) c.call.result c.call.new.stack.items c.args.stack.now.items
    (ap (λ (vs : List Value). asks (operation.Call c.in-Some.callee.now (value.Own c.args.number ∷ vs)) (λ v. on_truth v (λ b. gives (boolean b)))) c.from_ref-arguments.ensures.value) c.call.ensures.means)

pub returns-in-None-clause-means : goal.returns-in-None-clause-means
returns-in-None-clause-means c =
    method_missing c.args.store.now.cells c.args.number (codes "__contains__") (c.args.x.now ∷ []) (λ v. on_truth v (λ b. gives (boolean b))) (would_drain c.args.number) c.would_drain.result c.args.stack.now.items c.args.stack.now.items c.in-None.ensures
    (here c.args.store.now.cells (would_drain c.args.number) c.would_drain.result c.args.stack.now.items c.would_drain.ensures.means)
