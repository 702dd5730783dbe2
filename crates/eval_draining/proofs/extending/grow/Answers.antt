use Rattle.std.proofs.Common.{◌∙◌, ◌++◌, ap, List, length}
use Rattle.rp_base.specs.declared.value.Value.{Value}
use Rattle.py_store.specs.Cells.{cell_of}
use Rattle.eval_draining.proofs.Growing.{extended, has_list}
use Rattle.eval_draining.proofs.extending.grow.Goals as goal

pub take_list-items-requires : goal.take_list-items-requires
take_list-items-requires c = has_list (length c.args.more) (cell_of c.args.store.now.cells c.args.list) c.requires

pub returns-clause-means : goal.returns-clause-means
returns-clause-means c = λ fixed texts stack.
    extended c.args.list c.take_list-items.result c.args.more c.push_all.new.items c.args.is_answer c.answer_of.result c.args.store.now c.take_list-items.new.store c.put_list.new.store fixed texts stack
    c.take_list-items.ensures.items c.requires c.take_list-items.ensures.left c.put_list.ensures (c.in_ok-push_all.ensures ∙ ap (λ (vs : List Value). c.take_list-items.result ++ vs) c.in_ok-waiting.ensures) c.answer_of.ensures
