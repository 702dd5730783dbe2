use Rattle.std.proofs.Common.{[], ◌∷◌, Option, List, Some, None, Ok, subst, sym, ap, ℕ}
use Rattle.eval_instances.proofs.CallLemmas.{Found, anywhere, compared, method_missing}
use Rattle.rp_base.specs.declared.value.Value.{Value}
use Rattle.language_rules.specs.CellComparing.{method_gave, method_of, not_implemented}
use Rattle.eval_instances.proofs.comparing.compare_instance.Goals as goal

pub returns-in-Some-clause-means : goal.returns-in-Some-clause-means
returns-in-Some-clause-means c =
    compared c.args.store.now.cells c.args.number c.args.op c.args.other.now c.method_of.result.now c.from_ref.result.now c.after.result c.in-Some.callee.now c.call.result c.call.new.stack.items c.args.stack.now.items c.method_of.ensures c.from_ref.ensures.value c.after.ensures c.in-Some.ensures c.call.ensures.means

pub returns-in-None-clause-means : goal.returns-in-None-clause-means
returns-in-None-clause-means c =
    method_missing c.args.store.now.cells c.args.number (method_of c.args.op) (c.args.other.now ∷ []) (method_gave c.args.op) (not_implemented) (Ok c.give.result) c.args.stack.now.items c.args.stack.now.items (subst (λ (name : List ℕ). Found c.args.store.now.cells c.args.number name None) c.method_of.ensures c.in-None.ensures)
    (anywhere c.args.store.now.cells not_implemented (Ok c.give.result) c.args.stack.now.items c.give.ensures.means)
