use Rattle.std.proofs.Common.{◌≡◌, ◌∙◌, ◌++◌, ◌<◌, sym, refl, length, slice_get, get_or, Some, arith}
use Rattle.std.proofs.lemmas.Option.{slice_get_read}
use Rattle.py_scope.specs.Finished.{parameter_names, has_inner}
use Rattle.py_scope.proofs.facts.Facts.finished_at.Goals as goal

pub returns : goal.returns
returns c = λ info at.
    let ms = c.args.self.now.mentions.now in
    let fs = c.args.self.now.functions.now in
    let i = c.args.place in
    let read : slice_get fs i ≡ Some c.index-self-place.result = slice_get_read fs (length fs) i c.index-self-place.result refl c.requires.within c.index-self-place.is in
    let same : c.index-self-place.result ≡ info = cc in
    let shown : get_or fs i c.index-self-place.result ≡ info = sym c.index-self-place.is ∙ same in
    let in_others : i < length c.args.others.now = omega (arith, c.requires.within, c.requires.others.0) in
    let in_free : i < length c.args.free.now = omega (arith, c.requires.within, c.requires.free.0) in
    let others = c.requires.others.1 i c.index-others-place.result (slice_get_read c.args.others.now (length c.args.others.now) i c.index-others-place.result refl in_others c.index-others-place.is) in
    let frees = c.requires.free.1 i c.index-free-place.result (slice_get_read c.args.free.now (length c.args.free.now) i c.index-free-place.result refl in_free c.index-free-place.is) in
    let inner : c.contains-has_inner.result ≡ has_inner fs i = c.contains-has_inner.ensures ∙ c.requires.parents i in
    c.in_ok-function.ensures ∙ (λ j. record (shown j) { locals = parameter_names (shown j) ++ others j; free = frees j; has_inner = inner j })
