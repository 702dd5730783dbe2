use Rattle.std.proofs.Common.{◌≡◌, ◌∙◌, ap, sym, subst, is_some, true, false, List, ◌∷◌}
use Rattle.pair_run.specs.declared.scripts.Binding.{Binding}
use Rattle.pair_run.specs.Scripts.{number_of, Agrees}
use Rattle.pair_run.proofs.LastBindings.{added, left_out}
use Rattle.pair_run.proofs.scripts.keep.Goals as goal

pub returns-then-is_some : goal.returns-then-is_some
returns-then-is_some c = λ later h.
    let old : is_some (number_of c.args.namespace.now.items c.args.earlier.letter) ≡ true =
    ap (λ bs. is_some (number_of bs c.args.earlier.letter)) (sym c.deref.ensures.value) ∙ ap is_some (sym c.number_of.ensures) ∙ sym c.if-is_some.ensures in
    left_out c.args.namespace.now.items later c.args.earlier h old

pub returns : goal.returns
returns c = λ later h.
    let new : is_some (number_of c.args.namespace.now.items c.args.earlier.letter) ≡ false =
    ap (λ bs. is_some (number_of bs c.args.earlier.letter)) (sym c.deref.ensures.value) ∙ ap is_some (sym c.number_of.ensures) ∙ sym c.if-is_some.ensures in
    let F : List Binding → Type 0 = λ bs. Agrees bs (c.args.earlier ∷ later) in
    subst F (sym c.in_ok-push.ensures.items) (added c.args.namespace.now.items later c.args.earlier h new)
