use Rattle.eval_searching.proofs.PlaceLaws.{removed}
use Rattle.eval_searching.proofs.places.take_out.Goals as goal

pub returns-clause-means : goal.returns-clause-means
returns-clause-means c = λ fixed texts stack.
    removed c.args.list c.args.place c.take_list-items.result c.drop_at.new.items c.args.store.now c.take_list-items.new.store c.put_list.new.store fixed texts stack
    c.take_list-items.ensures.items c.take_list-items.ensures.left c.put_list.ensures c.drop_at.ensures
