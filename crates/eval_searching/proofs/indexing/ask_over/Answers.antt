use Rattle.std.proofs.Common.{◌≡◌, Some}
use Rattle.py_store.specs.Cells.{cell_of}
use Rattle.py_store.specs.declared.cell.Cell.TheVariants as cell
use Rattle.eval_searching.proofs.PlaceLaws.{asked_over}
use Rattle.eval_searching.proofs.indexing.ask_over.Goals as goal

pub returns-clause-means : goal.returns-clause-means
returns-clause-means c =
    let seen = c.in-Some-List.ensures in
    let is = c.in-Some-List.field-0-is in
    let slice = c.as_slice.ensures in
    let there : cell_of c.args.store.now.cells c.args.list ≡ Some (cell.List c.as_slice.result.now) = cc in
    asked_over c.args.store.now.cells c.args.list c.args.at c.args.wanted c.args.frame c.as_slice.result.now c.ask_item.result c.ask_item.new.stack.items c.args.stack.now.items c.push.new.self.items there c.in_ok-push-in-Some-List.ensures.items c.ask_item.ensures.means
