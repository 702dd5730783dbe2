use Rattle.std.proofs.Common.{◌≡◌, Some}
use Rattle.py_store.specs.Cells.{cell_of}
use Rattle.py_store.specs.declared.cell.Cell.TheVariants as cell
use Rattle.eval_objects.proofs.FunctionLemmas.{function_there}
use Rattle.eval_objects.proofs.functions.of_function.Goals as goal

pub returns-in-Some-Function-clause-means : goal.returns-in-Some-Function-clause-means
returns-in-Some-Function-clause-means c =
    let seen = c.in-Some-Function.ensures in
    let is = c.in-Some-Function.field-0-is in
    let there : cell_of c.args.store.now.cells c.args.number ≡ Some (cell.Function c.in-Some-Function.field-0-0 c.in-Some-Function.field-0-1 c.in-Some-Function.field-0-2) = cc in
    function_there c.args.store.now.cells c.args.number c.in-Some-Function.field-0-0 c.in-Some-Function.field-0-1 c.in-Some-Function.field-0-2 c.args.answer there
