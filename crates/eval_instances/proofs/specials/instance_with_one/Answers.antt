use Rattle.std.proofs.Common.{[], ◌∷◌, codes, refl, subst, List, IfOk}
use Rattle.eval_instances.proofs.CallLemmas.{anywhere, here, on_instances}
use Rattle.object_operations.specs.declared.special.Special.TheVariants as special
use Rattle.language_rules.specs.Attributes.{calls_method}
use Rattle.py_store.specs.declared.cell.Cell.TheVariants as cell
use Rattle.rp_base.specs.declared.value.Value.{Value}
use Rattle.eval_instances.specs.Methods.{Within}
use Rattle.side_trees.specs.Trees.{Return}
use Rattle.language_rules.specs.Going.{done}
use Rattle.language_rules.specs.Answers.{gives}
use Rattle.language_rules.specs.Containing.{contains_rule}
use Rattle.language_rules.specs.Arithmetic.{calls_operator, subtract_rule}
use Rattle.language_rules.specs.Operators.{unsupported}
use Rattle.language_rules.specs.PlainItems.{no_items}
use Rattle.eval_instances.proofs.specials.instance_with_one.Goals as goal

pub returns-in-GetItem-clause-means : goal.returns-in-GetItem-clause-means
returns-in-GetItem-clause-means c =
    on_instances c.args.store.now.cells c.call_or_refuse.new.stack.items c.args.stack.now.items c.args.number (c.args.x.now ∷ []) c.args.special special.GetItem c.call_or_refuse.result (calls_method c.args.number (codes "__getitem__") (c.args.x.now ∷ []) (gives) no_items) c.in-GetItem.is (λ class_no attributes. refl)
    (subst (λ (vs : List Value). IfOk c.call_or_refuse.result (Within c.args.store.now.cells c.call_or_refuse.new.stack.items (calls_method c.args.number (codes "__getitem__") vs (gives) no_items) c.args.stack.now.items)) c.from_ref.ensures.value c.call_or_refuse.ensures.means)

pub returns-in-DelItem-clause-means : goal.returns-in-DelItem-clause-means
returns-in-DelItem-clause-means c =
    on_instances c.args.store.now.cells c.call_or_refuse-in-DelItem.new.stack.items c.args.stack.now.items c.args.number (c.args.x.now ∷ []) c.args.special special.DelItem c.call_or_refuse-in-DelItem.result (calls_method c.args.number (codes "__delitem__") (c.args.x.now ∷ []) (λ answer. Return done) no_items) c.in-DelItem.is (λ class_no attributes. refl)
    (subst (λ (vs : List Value). IfOk c.call_or_refuse-in-DelItem.result (Within c.args.store.now.cells c.call_or_refuse-in-DelItem.new.stack.items (calls_method c.args.number (codes "__delitem__") vs (λ answer. Return done) no_items) c.args.stack.now.items)) c.from_ref-in-DelItem.ensures.value c.call_or_refuse-in-DelItem.ensures.means)

pub returns-in-Contains-clause-means : goal.returns-in-Contains-clause-means
returns-in-Contains-clause-means c =
    on_instances c.args.store.now.cells c.contains.new.stack.items c.args.stack.now.items c.args.number (c.args.x.now ∷ []) c.args.special special.Contains c.contains.result (contains_rule c.args.number c.args.x.now (cell.Instance 0 [])) c.in-Contains.is (λ class_no attributes. refl)
    (c.contains.ensures.means)

pub returns-in-Add-clause-means : goal.returns-in-Add-clause-means
returns-in-Add-clause-means c =
    on_instances c.args.store.now.cells c.operate_with.new.stack.items c.args.stack.now.items c.args.number (c.args.x.now ∷ []) c.args.special special.Add c.operate_with.result (calls_operator c.args.number special.Add c.args.x.now unsupported) c.in-Add.is (λ class_no attributes. refl)
    c.operate_with.ensures.means

pub returns-in-Mul-clause-means : goal.returns-in-Mul-clause-means
returns-in-Mul-clause-means c =
    on_instances c.args.store.now.cells c.operate_with-in-Mul.new.stack.items c.args.stack.now.items c.args.number (c.args.x.now ∷ []) c.args.special special.Mul c.operate_with-in-Mul.result (calls_operator c.args.number special.Mul c.args.x.now unsupported) c.in-Mul.is (λ class_no attributes. refl)
    c.operate_with-in-Mul.ensures.means

pub returns-in-FloorDiv-clause-means : goal.returns-in-FloorDiv-clause-means
returns-in-FloorDiv-clause-means c =
    on_instances c.args.store.now.cells c.operate_with-in-FloorDiv.new.stack.items c.args.stack.now.items c.args.number (c.args.x.now ∷ []) c.args.special special.FloorDiv c.operate_with-in-FloorDiv.result (calls_operator c.args.number special.FloorDiv c.args.x.now unsupported) c.in-FloorDiv.is (λ class_no attributes. refl)
    c.operate_with-in-FloorDiv.ensures.means

pub returns-in-Mod-clause-means : goal.returns-in-Mod-clause-means
returns-in-Mod-clause-means c =
    on_instances c.args.store.now.cells c.operate_with-in-Mod.new.stack.items c.args.stack.now.items c.args.number (c.args.x.now ∷ []) c.args.special special.Mod c.operate_with-in-Mod.result (calls_operator c.args.number special.Mod c.args.x.now unsupported) c.in-Mod.is (λ class_no attributes. refl)
    c.operate_with-in-Mod.ensures.means

pub returns-in-Sub-clause-means : goal.returns-in-Sub-clause-means
returns-in-Sub-clause-means c =
    on_instances c.args.store.now.cells c.subtract.new.stack.items c.args.stack.now.items c.args.number (c.args.x.now ∷ []) c.args.special special.Sub c.subtract.result (subtract_rule c.args.number c.args.x.now (cell.Instance 0 [])) c.in-Sub.is (λ class_no attributes. refl)
    c.subtract.ensures.means

pub returns-in-IAdd-clause-means : goal.returns-in-IAdd-clause-means
returns-in-IAdd-clause-means c =
    on_instances c.args.store.now.cells c.args.stack.now.items c.args.stack.now.items c.args.number (c.args.x.now ∷ []) c.args.special special.IAdd c.refuse.result (unsupported) c.in-IAdd.is (λ class_no attributes. refl)
    (anywhere c.args.store.now.cells unsupported c.refuse.result c.args.stack.now.items c.refuse.ensures.means)
