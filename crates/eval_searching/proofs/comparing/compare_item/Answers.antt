use Rattle.std.proofs.Common.{◌≡◌, Some}
use Rattle.py_store.specs.Cells.{cell_of}
use Rattle.py_store.specs.declared.cell.Cell.TheVariants as cell
use Rattle.eval_searching.specs.Compared.{at_length}
use Rattle.eval_searching.proofs.StateLaws.{list_read_at}
use Rattle.eval_searching.proofs.comparing.compare_item.Goals as goal

pub returns-in-Some-List-clause-means : goal.returns-in-Some-List-clause-means
returns-in-Some-List-clause-means c =
    let seen = c.in-Some-List.ensures in
    let is = c.in-Some-List.field-0-is in
    let slice = c.as_slice.ensures in
    let there : cell_of c.args.store.now.cells c.args.pair.list ≡ Some (cell.List c.as_slice.result.now) = cc in
    list_read_at c.args.store.now.cells c.args.pair.list c.as_slice.result.now (at_length c.args.pair c.args.length c.args.position c.args.value) c.compare_within.result c.compare_within.new.stack.items c.args.stack.now.items there c.compare_within.ensures.means
