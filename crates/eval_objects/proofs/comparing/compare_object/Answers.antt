use Rattle.std.proofs.Common.{◌≡◌, Some}
use Rattle.py_store.specs.Cells.{cell_of}
use Rattle.eval_objects.proofs.CompareLemmas.{compared_there}
use Rattle.eval_objects.proofs.comparing.compare_object.Goals as goal

pub returns-in_ok-way-in-Some-clause-means : goal.returns-in_ok-way-in-Some-clause-means
returns-in_ok-way-in-Some-clause-means c =
    let seen = c.in-Some.ensures in
    let is = c.in-Some.is in
    let there : cell_of c.args.store.now.cells c.args.number ≡ Some c.in-Some.cell.now = cc in
    compared_there c.args.store.now.cells c.args.number c.in-Some.cell.now c.args.op c.args.other.now c.kind_of_value.result c.in_ok-way-in-Some.way c.compare_so.result c.compare_so.new.stack.items c.args.stack.now.items there (λ fixed texts. c.kind_of_value.ensures fixed texts)
    (c.in_ok-way-in-Some.ensures c.args.number c.args.op c.args.other.now) c.compare_so.ensures.means
