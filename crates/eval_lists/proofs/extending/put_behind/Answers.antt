use Rattle.std.proofs.Common.{Some, ◌∙◌, ap}
use Rattle.py_store.specs.declared.cell.Cell.{Cell}
use Rattle.eval_lists.proofs.ListLemmas.{put_list}
use Rattle.eval_lists.proofs.extending.put_behind.Goals as goal

pub returns : goal.returns
returns c = λ items is fixed texts.
    put_list c.args.list c.args.store.now c.replace.new.self c.replace-in-List.new.self c.in-List.items c.in_ok-all-in-List.all items c.args.more
    (c.replace.ensures.old ∙ ap (λ (x : Cell). Some x) c.in-List.is) c.replace.ensures.new c.replace-in-List.ensures.new c.in_ok-all-in-List.ensures is fixed texts
