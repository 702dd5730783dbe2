use Rattle.std.proofs.Common.{◌∙◌, ap, sym, length, ◌<◌, arith}
use Rattle.py_scope.specs.Tables.{class_noted}
use Rattle.py_scope.proofs.TableLaws.{class_start, class_more}
use Rattle.py_scope.proofs.classes.ClassTable.of.Goals as goal

pub loop-mention-init : goal.loop-mention-init
loop-mention-init c = class_start c.new-table.result.map c.new-table.ensures

pub loop-mention-preserved : goal.loop-mention-preserved
loop-mention-preserved c = λ k.
    let within : c.loop-mention.mention-index < length c.args.mentions.now = omega arith in
    c.in_ok-note.ensures k ∙ ap (class_noted c.mention-item.result k) (c.loop-mention.invariant k)
    ∙ sym (class_more c.args.mentions.now c.loop-mention.mention-index c.mention-item.result c.mention-item.result within (sym c.mention-item.is) k)
