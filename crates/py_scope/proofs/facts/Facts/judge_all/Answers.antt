use Rattle.std.proofs.Common.{◌≡◌, ◌∙◌, ap, sym, take, drop, [], length, ◌<◌, ◌≤◌, arith, refl}
use Rattle.std.proofs.lemmas.List.{at_drop_all}
use Rattle.py_mentions.specs.Worst.{worst_with}
use Rattle.py_scope.specs.Rules.{breaks_from}
use Rattle.py_scope.specs.Tables.{local_noted}
use Rattle.py_scope.proofs.TableLaws.{local_start, local_more}
use Rattle.py_scope.proofs.WorstLaws.{breaks_more, breaks_none}
use Rattle.py_scope.proofs.facts.Facts.judge_all.Goals as goal

pub loop-mention-init : goal.loop-mention-init
loop-mention-init c = (local_start c.new-before.result.map c.new-before.ensures, refl)

pub loop-mention-preserved : goal.loop-mention-preserved
loop-mention-preserved c =
    let ms = c.args.self.now.mentions.now in
    let i = c.loop-mention.mention-index in
    let m = c.mention-item.result in
    let within : c.loop-mention.mention-index < length c.args.self.now.mentions.now = omega arith in (
      (λ f n. c.in_ok-note.ensures f n ∙ ap (local_noted m f n) (c.loop-mention.invariant.0 f n) ∙ sym (local_more ms i m m within (sym c.mention-item.is) f n)),
      c.loop-mention.invariant.1 ∙ breaks_more ms c.args.self.now.functions.now i m m within (sym c.mention-item.is) c.loop-mention.so_far c.judge-so_far.result (c.judge-so_far.ensures (take i ms) c.loop-mention.invariant.0),
    )

pub returns : goal.returns
returns c =
    let fs = c.args.self.now.functions.now in
    let ms = c.args.self.now.mentions.now in
    let before = take c.loop-mention.mention-index ms in
    let past : length ms ≤ c.loop-mention.mention-index = omega arith in
    let end : worst_with c.loop-mention.so_far (breaks_from ms fs before (drop c.loop-mention.mention-index ms)) ≡ worst_with c.loop-mention.so_far (breaks_from ms fs before []) =
    at_drop_all (λ rest. worst_with c.loop-mention.so_far (breaks_from ms fs before rest)) ms c.loop-mention.mention-index past in
    sym (c.loop-mention.invariant.1 ∙ end ∙ breaks_none ms fs before c.loop-mention.so_far)
