use Rattle.std.proofs.Common.{◌∙◌, ap, sym, length, ◌<◌, arith}
use Rattle.py_scope.specs.Tables.{local_noted}
use Rattle.py_scope.proofs.TableLaws.{local_start, local_more}
use Rattle.py_scope.proofs.locals.LocalTable.of.Goals as goal

pub loop-mention-init : goal.loop-mention-init
loop-mention-init c = local_start c.new-table.result.map c.new-table.ensures

pub loop-mention-preserved : goal.loop-mention-preserved
loop-mention-preserved c = λ f n.
    let within : c.loop-mention.mention-index < length c.args.mentions.now = omega arith in
    c.in_ok-note.ensures f n ∙ ap (local_noted c.mention-item.result f n) (c.loop-mention.invariant f n)
    ∙ sym (local_more c.args.mentions.now c.loop-mention.mention-index c.mention-item.result c.mention-item.result within (sym c.mention-item.is) f n)
