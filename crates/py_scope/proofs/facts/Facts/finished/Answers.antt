use Rattle.std.proofs.Common.{◌∙◌, ◌++◌, ap, sym, length, get_or, ◌<◌, ◌≤◌, arith}
use Rattle.std.proofs.lemmas.Option.{slice_get-get_or}
use Rattle.py_scope.specs.Finished.{finished_from}
use Rattle.py_scope.proofs.FinishLaws.{finish_more, finish_end}
use Rattle.py_scope.proofs.facts.Facts.finished.Goals as goal

pub loop-place-init : goal.loop-place-init
loop-place-init c = ap (λ done. done ++ finished_from c.args.self.now.mentions.now c.args.self.now.functions.now 0 c.args.self.now.functions.now) (sym c.new-finished.ensures)

pub loop-place-preserved : goal.loop-place-preserved
loop-place-preserved c =
    let fs = c.args.self.now.functions.now in
    let i = c.loop-place.place in
    let within : i < length fs = omega arith in
    c.loop-place.invariant ∙ finish_more c.args.self.now.mentions.now fs i c.loop-place.finished c.in_ok-function.function c.push.new.self within
    (c.in_ok-function.ensures (get_or fs i c.in_ok-function.function) (slice_get-get_or fs i c.in_ok-function.function within)) c.in_ok-push.ensures.ok

pub returns : goal.returns
returns c =
    let past : length c.args.self.now.functions.now ≤ c.loop-place.place = omega arith in
    sym (c.loop-place.invariant ∙ finish_end c.args.self.now.mentions.now c.args.self.now.functions.now c.loop-place.place c.loop-place.finished past)
