use Rattle.std.proofs.Common.{[], ◌∷◌, refl}
use Rattle.object_operations.specs.declared.special.Special.TheVariants as special
use Rattle.language_rules.specs.PlainItems.{no_items}
use Rattle.eval_objects.proofs.IteratorLemmas.{still_plain}
use Rattle.eval_objects.proofs.iterators.iterator_with_two.Goals as goal

pub returns-in-SetItem-clause-means : goal.returns-in-SetItem-clause-means
returns-in-SetItem-clause-means c = still_plain c.args.number (c.args.key.now ∷ c.args.item.now ∷ []) c.args.special special.SetItem no_items c.refuse.result c.in-SetItem.is (λ source at shape. refl) c.refuse.ensures.means
