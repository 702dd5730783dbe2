use Rattle.std.proofs.Common.{sym, take, length, ◌<◌, ◌+◌, arith, subst}
use Rattle.py_scope.specs.Tables.{name_in, IsOfName}
use Rattle.py_scope.proofs.TableLaws.{name_start, name_more}
use Rattle.py_scope.proofs.names.NameTable.of.Goals as goal

pub loop-mention-init : goal.loop-mention-init
loop-mention-init c = name_start c.new-table.result.map c.new-table.ensures c.args.mentions.now

pub loop-mention-preserved : goal.loop-mention-preserved
loop-mention-preserved c = λ n.
    let within : c.loop-mention.mention-index < length c.args.mentions.now = omega arith in
    subst (IsOfName c.args.mentions.now (take (c.loop-mention.mention-index + 1) c.args.mentions.now) n) (sym (c.in_ok-note.ensures n))
    (name_more c.args.mentions.now c.loop-mention.mention-index c.mention-item.result c.mention-item.result within (sym c.mention-item.is)
    c.args.mentions.now n (name_in c.loop-mention.table.map n) c.is_own.result (c.is_own.ensures c.args.mentions.now c.requires) (c.loop-mention.invariant n))
