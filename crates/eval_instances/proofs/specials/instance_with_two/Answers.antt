use Rattle.std.proofs.Common.{[], ◌∷◌, refl}
use Rattle.eval_instances.proofs.CallLemmas.{on_instances}
use Rattle.object_operations.specs.declared.special.Special.TheVariants as special
use Rattle.py_store.specs.declared.cell.Cell.TheVariants as cell
use Rattle.language_rules.specs.Items.{set_item_rule}
use Rattle.eval_instances.proofs.specials.instance_with_two.Goals as goal

pub returns-in-SetItem-clause-means : goal.returns-in-SetItem-clause-means
returns-in-SetItem-clause-means c =
    on_instances c.args.store.now.cells c.set_item.new.stack.items c.args.stack.now.items c.args.number (c.args.key.now ∷ c.args.item.now ∷ []) c.args.special special.SetItem c.set_item.result (set_item_rule c.args.number c.args.key.now c.args.item.now (cell.Instance 0 [])) c.in-SetItem.is (λ class_no attributes. refl)
    (c.set_item.ensures.means)
