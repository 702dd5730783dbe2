use Rattle.std.proofs.Common.{◌≡◌, Some}
use Rattle.py_store.specs.Cells.{cell_of}
use Rattle.py_store.specs.declared.cell.Cell.TheVariants as cell
use Rattle.language_rules.specs.Searching.{values_from, values_of}
use Rattle.eval_searching.proofs.ValueLaws.{dict_found}
use Rattle.eval_searching.proofs.dicts.search_values.Goals as goal

pub returns-in-Some-Dict-clause-means : goal.returns-in-Some-Dict-clause-means
returns-in-Some-Dict-clause-means c =
    let seen = c.in-Some-Dict.ensures in
    let is = c.in-Some-Dict.field-0-is in
    let there : cell_of c.args.store.now.cells c.args.dict ≡ Some (cell.Dict c.in-Some-Dict.entries c.in-Some-Dict.shape) = cc in
    dict_found c.args.store.now.cells c.args.dict c.in-Some-Dict.entries c.in-Some-Dict.shape (λ entries shape. values_from c.args.dict shape 0 c.args.wanted (values_of entries)) c.begin_search.result c.begin_search.new.stack.items c.args.stack.now.items there c.begin_search.ensures.means
