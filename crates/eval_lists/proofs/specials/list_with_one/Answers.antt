use Rattle.std.proofs.Common.{[], ◌∷◌, refl}
use Rattle.object_operations.specs.declared.special.Special.TheVariants as special
use Rattle.language_rules.specs.Operators.{unsupported}
use Rattle.eval_lists.proofs.ListLemmas.{any_over, changed_one, found_in, read_one}
use Rattle.eval_lists.proofs.specials.list_with_one.Goals as goal

pub returns-in-GetItem-clause-means : goal.returns-in-GetItem-clause-means
returns-in-GetItem-clause-means c =
    read_one c.args.store.now.cells c.args.number c.args.special special.GetItem c.args.x.now c.from_ref.result.now c.read_list.result c.answered.result c.args.stack.now.items c.in-GetItem.is c.from_ref.ensures.value c.read_list.ensures c.answered.ensures.means

pub returns-in-DelItem-clause-means : goal.returns-in-DelItem-clause-means
returns-in-DelItem-clause-means c =
    changed_one c.args.store.now c.change_list.new.store c.args.number c.args.special special.DelItem c.args.x.now c.from_ref-in-DelItem.result.now c.change_list.result c.answered-in-DelItem.result c.args.stack.now.items c.in-DelItem.is c.from_ref-in-DelItem.ensures.value
    c.change_list.ensures.comes c.change_list.ensures.kept c.answered-in-DelItem.ensures.means

pub returns-in_ok-copy-in-Contains-clause-means : goal.returns-in_ok-copy-in-Contains-clause-means
returns-in_ok-copy-in-Contains-clause-means c =
    found_in c.args.store.now.cells c.args.number c.args.special c.args.x.now c.in_ok-copy-in-Contains.field-0 c.search_list.result c.search_list.new.stack.items c.args.stack.now.items c.requires c.in-Contains.is c.in_ok-copy-in-Contains.ensures c.search_list.ensures.means

pub returns-in-FloorDiv-clause-means : goal.returns-in-FloorDiv-clause-means
returns-in-FloorDiv-clause-means c =
    any_over c.args.store.now.cells c.args.number (c.args.x.now ∷ []) c.args.special special.FloorDiv unsupported c.refuse.result c.args.stack.now.items c.requires c.in-FloorDiv.is (λ items. refl) c.refuse.ensures.means

pub returns-in-Mod-clause-means : goal.returns-in-Mod-clause-means
returns-in-Mod-clause-means c =
    any_over c.args.store.now.cells c.args.number (c.args.x.now ∷ []) c.args.special special.Mod unsupported c.refuse-in-Mod.result c.args.stack.now.items c.requires c.in-Mod.is (λ items. refl) c.refuse-in-Mod.ensures.means
