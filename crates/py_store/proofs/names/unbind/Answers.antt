use Rattle.std.proofs.Common.{◌≡◌, ◌∙◌, sym, ap, Some, None, option_map}
use Rattle.py_store.specs.Bindings.{binding_place}
use Rattle.py_store.proofs.BindingLemmas.{name_is_at, name_is_missing}
use Rattle.py_store.proofs.names.unbind.Goals as goal

pub returns-in_err-at-clause-value : goal.returns-in_err-at-clause-value
returns-in_err-at-clause-value c =
    let slice = c.as_slice.ensures in
    let missing = c.in_err-at.ensures in
    let place : binding_place c.args.name.now c.args.bindings.now ≡ None = cc in
    c.from_residual.ensures ∙ sym (name_is_missing c.args.name.now c.args.bindings.now place).bound

pub returns-in_err-at-clause-left : goal.returns-in_err-at-clause-left
returns-in_err-at-clause-left c =
    let slice = c.as_slice.ensures in
    let missing = c.in_err-at.ensures in
    let place : binding_place c.args.name.now c.args.bindings.now ≡ None = cc in
    sym (name_is_missing c.args.name.now c.args.bindings.now place).without

pub returns-clause-value : goal.returns-clause-value
returns-clause-value c =
    let slice = c.as_slice.ensures in
    let found = c.in_ok-at.ensures in
    let place : binding_place c.args.name.now c.args.bindings.now ≡ Some c.in_ok-at.at = cc in
    sym ((name_is_at c.args.name.now c.args.bindings.now c.in_ok-at.at place).bound ∙ ap (option_map (λ b. b.value)) c.remove.ensures.item)

pub returns-clause-left : goal.returns-clause-left
returns-clause-left c =
    let slice = c.as_slice.ensures in
    let found = c.in_ok-at.ensures in
    let place : binding_place c.args.name.now c.args.bindings.now ≡ Some c.in_ok-at.at = cc in
    c.remove.ensures.rest ∙ sym (name_is_at c.args.name.now c.args.bindings.now c.in_ok-at.at place).without
