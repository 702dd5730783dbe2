use Rattle.std.proofs.Common.{◌∙◌, sym, ap, option_map}
use Rattle.py_store.proofs.Searches.{search_goes_on, search_ends}
use Rattle.py_store.proofs.store.Store.find_attr.Goals as goal

pub returns-in_err-holder : goal.returns-in_err-holder
returns-in_err-holder c =
    ap (option_map (λ p. (p.holder, p.at))) c.from_residual.ensures
    ∙ sym (c.loop.invariant.1 ∙ search_ends _ _ _ _ _ _ c.loop-test.true c.own_attributes.ensures c.in_default.ensures c.in_err-holder.ensures)

pub loop-preserved : goal.loop-preserved
loop-preserved c =
    (c.loop.invariant.0, c.loop.invariant.1 ∙ search_goes_on _ _ _ _ _ _ _ c.loop-test.true c.own_attributes.ensures c.in_default.ensures c.in_ok-holder.ensures)
