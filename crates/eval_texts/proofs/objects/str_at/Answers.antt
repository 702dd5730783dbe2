use Rattle.std.proofs.Common.{◌≡◌, Some}
use Rattle.py_store.specs.Cells.{cell_of}
use Rattle.py_store.specs.declared.cell.Cell.TheVariants as cell
use Rattle.language_rules.specs.Printing.{str_of_cell}
use Rattle.eval_texts.proofs.InstanceTexts.{instance_read}
use Rattle.eval_texts.proofs.StackLaws.{cell_read}
use Rattle.eval_texts.proofs.objects.str_at.Goals as goal

pub returns-in-Some-Instance-clause-means : goal.returns-in-Some-Instance-clause-means
returns-in-Some-Instance-clause-means c =
    let seen = c.in-Some-Instance.ensures in
    let is = c.in-Some-Instance.field-0-is in
    let there : cell_of c.args.store.now.cells c.args.number ≡ Some (cell.Instance c.in-Some-Instance.field-0-0 c.in-Some-Instance.field-0-1) = cc in
    instance_read c.args.store.now.cells c.args.number c.in-Some-Instance.field-0-0 c.in-Some-Instance.field-0-1 (str_of_cell c.args.number) c.args.printing.now c.str_of_instance.result c.str_of_instance.new.stack.items c.args.stack.now.items there c.str_of_instance.ensures.means

pub returns-in-Some-clause-means : goal.returns-in-Some-clause-means
returns-in-Some-clause-means c =
    let seen = c.in-Some.ensures in
    let there : cell_of c.args.store.now.cells c.args.number ≡ Some c.in-Some.cell.now = cc in
    cell_read c.args.store.now.cells c.args.number c.in-Some.cell.now (str_of_cell c.args.number) c.args.printing.now c.text_of_cell.new.printing c.text_of_cell.result c.text_of_cell.new.stack.items c.args.stack.now.items there c.text_of_cell.ensures.str
