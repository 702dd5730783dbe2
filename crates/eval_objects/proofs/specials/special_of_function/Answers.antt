use Rattle.eval_objects.proofs.SpecialLemmas.{of_one, of_two}
use Rattle.eval_objects.proofs.specials.special_of_function.Goals as goal

pub returns-in-len1-clause-means : goal.returns-in-len1-clause-means
returns-in-len1-clause-means c = of_one c.args.special c.args.arguments.now c.special_with_one.result c.in-len1.len_at_least c.in-len1.len_below c.special_with_one.ensures.means

pub returns-in-len2-clause-means : goal.returns-in-len2-clause-means
returns-in-len2-clause-means c = of_two c.args.special c.args.arguments.now c.special_with_two.result c.in-len2.len_at_least c.in-len2.len_below c.special_with_two.ensures.means
