use Rattle.eval_dicts.proofs.DictLemmas.{with_two}
use Rattle.eval_dicts.proofs.views.special_of_view.Goals as goal

pub returns-in-len2-clause-means : goal.returns-in-len2-clause-means
returns-in-len2-clause-means c = with_two c.args.store.now.cells c.args.special c.args.number c.args.dict c.args.which c.args.arguments.now c.view_with_two.result c.args.stack.now.items c.in-len2.len_at_least c.in-len2.len_below c.view_with_two.ensures.means
