use Rattle.std.proofs.Common.{List, IfOk, refl, sym, subst}
use Rattle.object_operations.specs.declared.special.Special.TheVariants as special
use Rattle.rp_base.specs.declared.value.Value.{Value}
use Rattle.rp_base.specs.declared.value.Value.TheVariants as value
use Rattle.py_store.specs.declared.cell.Which.{Which}
use Rattle.py_store.specs.declared.cell.Which.TheVariants as view
use Rattle.language_rules.specs.Containing.{contains_rule, gives_found, gives_in_view}
use Rattle.language_rules.specs.Going.{reads_cell}
use Rattle.language_rules.specs.Perform.{special_rule}
use Rattle.language_rules.specs.Searching.{searches_values}
use Rattle.eval_ranges.proofs.SpecialLemmas.{Within}
use Rattle.eval_lists.proofs.ListLemmas.{read_on}
use Rattle.eval_dicts.proofs.DictLemmas.{InState, at_stack, dict_same, dict_so}
use Rattle.eval_dicts.proofs.views.contained.Goals as goal

pub returns-in-Keys-clause-means : goal.returns-in-Keys-clause-means
returns-in-Keys-clause-means c =
    let cells = c.args.store.now.cells in
    at_stack cells (reads_cell c.args.dict (gives_in_view c.args.dict c.args.x.now c.args.which)) c.args.stack.now.items c.answered.result
    (subst (λ (w : Which). IfOk c.answered.result (Within cells (reads_cell c.args.dict (gives_in_view c.args.dict c.args.x.now w)))) (sym c.in-Keys.is)
    (dict_same cells c.args.dict (contains_rule c.args.dict c.args.x.now) (gives_in_view c.args.dict c.args.x.now view.Keys) c.answered.result c.requires (λ entries shape. refl)
    (subst (λ (vs : List Value). IfOk c.answered.result (Within cells (special_rule special.Contains (value.Own c.args.dict) vs))) c.from_ref.ensures.value
    (read_on cells (special_rule special.Contains (value.Own c.args.dict) c.from_ref.result.now) c.read_dict.result c.answered.result c.read_dict.ensures c.answered.ensures.means))))

pub returns-in_ok-copy-in-Values-clause-means : goal.returns-in_ok-copy-in-Values-clause-means
returns-in_ok-copy-in-Values-clause-means c =
    let cells = c.args.store.now.cells in
    subst (λ (w : Which). IfOk c.search_values.result (InState cells (reads_cell c.args.dict (gives_in_view c.args.dict c.args.x.now w)) c.search_values.new.stack.items c.args.stack.now.items)) (sym c.in-Values.is)
    (dict_so cells c.args.dict (gives_in_view c.args.dict c.args.x.now view.Values) (gives_found (searches_values c.args.dict c.args.x.now)) c.search_values.result c.search_values.new.stack.items c.args.stack.now.items c.requires (λ entries shape. refl)
    (subst (λ (v : Value). IfOk c.search_values.result (InState cells (gives_found (searches_values c.args.dict v)) c.search_values.new.stack.items c.args.stack.now.items)) c.in_ok-copy-in-Values.ensures c.search_values.ensures.means))
