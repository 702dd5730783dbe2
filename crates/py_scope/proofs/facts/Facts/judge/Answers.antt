use Rattle.std.proofs.Common.{◌∙◌, ap}
use Rattle.rp_base.specs.declared.rules.Rule.TheVariants as rule
use Rattle.py_mentions.specs.Worst.{worst_with}
use Rattle.py_scope.specs.Rules.{breaks, refused_if, misnames, raises_other, is_too_private, leaks, misderives, misdeclares}
use Rattle.py_scope.proofs.WorstLaws.{six_steps}
use Rattle.py_scope.proofs.facts.Facts.judge.Goals as goal

pub returns : goal.returns
unfolding breaks
returns c = λ earlier h.
    let m = c.args.mention.now in
    let line = m.line in
    let ms = c.args.self.now.mentions.now in
    let fs = c.args.self.now.functions.now in
    six_steps c.args.worst c.worst_if-worst.result c.worst_if-worst-2.result c.worst_if-worst-3.result c.worst_if-worst-4.result c.worst_if-worst-5.result c.worst_if.result
    (refused_if (misnames m) line rule.S1) (refused_if (raises_other ms m) line rule.S2) (refused_if (is_too_private m) line rule.S4) (refused_if (leaks ms m) line rule.S6)
    (refused_if (misderives ms m) line rule.S8) (refused_if (misdeclares ms fs earlier m) line rule.S11)
    (c.worst_if-worst.ensures ∙ ap (λ b. worst_with c.args.worst (refused_if b line rule.S1)) c.misnames.ensures)
    (c.worst_if-worst-2.ensures ∙ ap (λ b. worst_with c.worst_if-worst.result (refused_if b line rule.S2)) c.raises_other.ensures)
    (c.worst_if-worst-3.ensures ∙ ap (λ b. worst_with c.worst_if-worst-2.result (refused_if b line rule.S4)) c.is_too_private.ensures)
    (c.worst_if-worst-4.ensures ∙ ap (λ b. worst_with c.worst_if-worst-3.result (refused_if b line rule.S6)) c.leaks.ensures)
    (c.worst_if-worst-5.ensures ∙ ap (λ b. worst_with c.worst_if-worst-4.result (refused_if b line rule.S8)) c.misderives.ensures)
    (c.worst_if.ensures ∙ ap (λ b. worst_with c.worst_if-worst-5.result (refused_if b line rule.S11)) (c.misdeclares.ensures earlier h))
