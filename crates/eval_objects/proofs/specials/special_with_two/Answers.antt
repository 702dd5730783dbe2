use Rattle.std.proofs.Common.{refl}
use Rattle.object_operations.specs.declared.special.Special.TheVariants as special
use Rattle.language_rules.specs.PlainItems.{no_items}
use Rattle.eval_objects.proofs.SpecialLemmas.{with_two}
use Rattle.eval_objects.proofs.specials.special_with_two.Goals as goal

pub returns-in-SetItem-clause-means : goal.returns-in-SetItem-clause-means
returns-in-SetItem-clause-means c = with_two c.args.special special.SetItem no_items c.refuse.result c.in-SetItem.is (λ number text function scope v w. refl) c.refuse.ensures.means
