use Rattle.eval_dicts.proofs.DictLemmas.{no_item_set}
use Rattle.eval_dicts.proofs.views.view_with_two.Goals as goal

pub returns-in-SetItem-clause-means : goal.returns-in-SetItem-clause-means
returns-in-SetItem-clause-means c = no_item_set c.args.special c.refuse.result c.in-SetItem.is c.refuse.ensures.means
