use Rattle.std.proofs.Common.{◌∙◌, ap, sym, length, ◌<◌, arith}
use Rattle.py_scope.specs.Finished.{handler_names, handled}
use Rattle.py_scope.specs.Names.{added_if}
use Rattle.py_scope.proofs.SetLaws.{names_more, names_none}
use Rattle.py_scope.proofs.scopes.handler_names.Goals as goal

pub loop-mention-init : goal.loop-mention-init
unfolding handler_names
loop-mention-init c = c.new-names.ensures ∙ sym (names_none handled)

pub loop-mention-preserved : goal.loop-mention-preserved
unfolding handler_names
loop-mention-preserved c =
    let within : c.loop-mention.mention-index < length c.args.mentions.now = omega arith in
    c.in_ok-add_handler.ensures ∙ ap (added_if (handled c.mention-item.result) c.mention-item.result.name) c.loop-mention.invariant
    ∙ sym (names_more handled c.args.mentions.now c.loop-mention.mention-index c.mention-item.result c.mention-item.result within (sym c.mention-item.is))
