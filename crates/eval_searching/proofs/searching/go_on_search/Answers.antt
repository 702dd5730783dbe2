use Rattle.std.proofs.Common.{◌≡◌, Some, drop, suc}
use Rattle.py_store.specs.Cells.{cell_of}
use Rattle.py_store.specs.declared.cell.Cell.TheVariants as cell
use Rattle.language_rules.specs.Searching.{searches_from}
use Rattle.eval_searching.proofs.StateLaws.{list_read}
use Rattle.eval_searching.proofs.searching.go_on_search.Goals as goal

pub returns-in-Some-List-clause-means : goal.returns-in-Some-List-clause-means
returns-in-Some-List-clause-means c =
    let seen = c.in-Some-List.ensures in
    let is = c.in-Some-List.field-0-is in
    let slice = c.as_slice.ensures in
    let there : cell_of c.args.store.now.cells c.args.list ≡ Some (cell.List c.as_slice.result.now) = cc in
    list_read c.args.store.now.cells c.args.list c.as_slice.result.now (λ items. searches_from c.args.list (suc c.args.position) c.args.wanted (drop (suc c.args.position) items)) c.search_on.result c.search_on.new.stack.items c.args.stack.now.items there c.search_on.ensures.means
