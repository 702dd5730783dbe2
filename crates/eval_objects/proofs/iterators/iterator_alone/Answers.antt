use Rattle.std.proofs.Common.{[], refl}
use Rattle.object_operations.specs.declared.special.Special.TheVariants as special
use Rattle.language_rules.specs.Operators.{unsupported}
use Rattle.eval_objects.proofs.IteratorLemmas.{still_plain}
use Rattle.eval_objects.proofs.iterators.iterator_alone.Goals as goal

pub returns-in-Neg-clause-means : goal.returns-in-Neg-clause-means
returns-in-Neg-clause-means c = still_plain c.args.number ([]) c.args.special special.Neg unsupported c.refuse-in-Neg.result c.in-Neg.is (λ source at shape. refl) c.refuse-in-Neg.ensures.means
