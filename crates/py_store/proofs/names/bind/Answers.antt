use Rattle.std.proofs.Common.{◌≡◌, ◌∙◌, sym, Some, None}
use Rattle.py_store.specs.Bindings.{binding_place}
use Rattle.py_store.proofs.BindingLemmas.{name_is_at, name_is_missing}
use Rattle.py_store.proofs.names.bind.Goals as goal

pub returns-in-Some-clause-ok : goal.returns-in-Some-clause-ok
returns-in-Some-clause-ok c =
    let text = c.as_str.ensures in
    let slice = c.as_slice.ensures in
    let found = c.in-Some.ensures in
    let place : binding_place c.args.name c.args.bindings.now ≡ Some c.in-Some.at = cc in
    c.set.ensures ∙ sym ((name_is_at c.args.name c.args.bindings.now c.in-Some.at place).with c.args.value)

pub returns-in_ok-push-in-None-clause-ok : goal.returns-in_ok-push-in-None-clause-ok
returns-in_ok-push-in-None-clause-ok c =
    let text = c.as_str.ensures in
    let slice = c.as_slice.ensures in
    let missing = c.in-None.ensures in
    let place : binding_place c.args.name c.args.bindings.now ≡ None = cc in
    c.in_ok-push-in-None.ensures.ok ∙ sym ((name_is_missing c.args.name c.args.bindings.now place).with c.args.value)
