use Rattle.std.proofs.Common.{[], ◌∷◌, refl}
use Rattle.object_operations.specs.declared.special.Special.TheVariants as special
use Rattle.language_rules.specs.Operators.{unsupported}
use Rattle.language_rules.specs.PlainItems.{no_items}
use Rattle.eval_objects.proofs.IteratorLemmas.{still_told}
use Rattle.eval_objects.proofs.iterators.iterator_with_one.Goals as goal

pub returns-in-GetItem-clause-means : goal.returns-in-GetItem-clause-means
returns-in-GetItem-clause-means c = still_told c.args.store.now.cells c.args.number (c.args.x.now ∷ []) c.args.special special.GetItem no_items c.refuse.result c.in-GetItem.is (λ source at shape. refl) c.refuse.ensures.means

pub returns-in-DelItem-clause-means : goal.returns-in-DelItem-clause-means
returns-in-DelItem-clause-means c = still_told c.args.store.now.cells c.args.number (c.args.x.now ∷ []) c.args.special special.DelItem no_items c.refuse-in-DelItem.result c.in-DelItem.is (λ source at shape. refl) c.refuse-in-DelItem.ensures.means

pub returns-in-Add-clause-means : goal.returns-in-Add-clause-means
returns-in-Add-clause-means c = still_told c.args.store.now.cells c.args.number (c.args.x.now ∷ []) c.args.special special.Add unsupported c.refuse-in-Add.result c.in-Add.is (λ source at shape. refl) c.refuse-in-Add.ensures.means

pub returns-in-Mul-clause-means : goal.returns-in-Mul-clause-means
returns-in-Mul-clause-means c = still_told c.args.store.now.cells c.args.number (c.args.x.now ∷ []) c.args.special special.Mul unsupported c.refuse-in-Mul.result c.in-Mul.is (λ source at shape. refl) c.refuse-in-Mul.ensures.means

pub returns-in-FloorDiv-clause-means : goal.returns-in-FloorDiv-clause-means
returns-in-FloorDiv-clause-means c = still_told c.args.store.now.cells c.args.number (c.args.x.now ∷ []) c.args.special special.FloorDiv unsupported c.refuse-in-FloorDiv.result c.in-FloorDiv.is (λ source at shape. refl) c.refuse-in-FloorDiv.ensures.means

pub returns-in-Mod-clause-means : goal.returns-in-Mod-clause-means
returns-in-Mod-clause-means c = still_told c.args.store.now.cells c.args.number (c.args.x.now ∷ []) c.args.special special.Mod unsupported c.refuse-in-Mod.result c.in-Mod.is (λ source at shape. refl) c.refuse-in-Mod.ensures.means

pub returns-in-IAdd-clause-means : goal.returns-in-IAdd-clause-means
returns-in-IAdd-clause-means c = still_told c.args.store.now.cells c.args.number (c.args.x.now ∷ []) c.args.special special.IAdd unsupported c.refuse-in-IAdd.result c.in-IAdd.is (λ source at shape. refl) c.refuse-in-IAdd.ensures.means
