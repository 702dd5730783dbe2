use Rattle.std.proofs.Common.{sym, ◌∙◌, ap}
use Rattle.language_rules.specs.AtOnce.{stated}
use Rattle.language_rules.specs.Names.{place_of}
use Rattle.eval_names.specs.Bound.{as_done}
use Rattle.eval_names.specs.Places.{meant}
use Rattle.eval_names.proofs.BindingLemmas.{bound_there}
use Rattle.eval_names.proofs.names.bind_name.Goals as goal

pub returns-clause-comes : goal.returns-clause-comes
returns-clause-comes c =
    λ fixed. bound_there (stated fixed c.args.store.now.cells c.args.texts.now) (stated fixed c.bind_at.new.store.cells c.args.texts.now) c.args.env c.args.name c.args.value (meant c.place_of-place.result) (as_done c.bind_at.result)
    (ap (place_of (stated fixed c.args.store.now.cells c.args.texts.now) c.args.env) (sym c.as_str.ensures) ∙ c.place_of-place.ensures fixed)
    (c.bind_at.ensures.comes (stated fixed c.args.store.now.cells c.args.texts.now))
