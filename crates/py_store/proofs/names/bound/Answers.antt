use Rattle.std.proofs.Common.{◌∙◌, sym, ap, option_copied, option_map}
use Rattle.std.proofs.lemmas.List.Quantifiers.{position-Some}
use Rattle.std.proofs.lemmas.Option.{slice_get-get_or}
use Rattle.std.specs.Str.{bytes_eq}
use Rattle.py_store.proofs.BindingLemmas.{name_is_at, name_is_missing}
use Rattle.py_store.proofs.names.bound.Goals as goal

pub returns-in_err-at : goal.returns-in_err-at
returns-in_err-at c = ap option_copied c.from_residual.ensures ∙ sym (name_is_missing c.args.name.now c.args.bindings.now (sym c.in_err-at.ensures)).bound

pub returns : goal.returns
returns c =
    let found = name_is_at c.args.name.now c.args.bindings.now c.in_ok-at.at (sym c.in_ok-at.ensures) in
    let within = (position-Some (λ b. bytes_eq c.args.name.now b.name) c.args.bindings.now c.in_ok-at.at c.index-bindings-at.result (sym c.in_ok-at.ensures)).0 in
    sym (found.bound ∙ ap (option_map (λ b. b.value)) (slice_get-get_or c.args.bindings.now c.in_ok-at.at c.index-bindings-at.result within))
