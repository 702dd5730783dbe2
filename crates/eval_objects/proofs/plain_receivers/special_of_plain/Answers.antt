use Rattle.eval_objects.proofs.SpecialLemmas.{item_deleted, item_set}
use Rattle.eval_objects.proofs.plain_receivers.special_of_plain.Goals as goal

pub returns-in-len2-clause-means : goal.returns-in-len2-clause-means
returns-in-len2-clause-means c = item_set c.args.special c.args.receiver.now c.args.arguments.now c.refuse.result c.in-SetItem.is c.in-len2.len_at_least c.in-len2.len_below c.refuse.ensures.means

pub returns-in-len1-clause-means : goal.returns-in-len1-clause-means
returns-in-len1-clause-means c = item_deleted c.args.special c.args.receiver.now c.args.arguments.now c.refuse-in-len1.result c.in-DelItem.is c.in-len1.len_at_least c.in-len1.len_below c.refuse-in-len1.ensures.means
