use Rattle.py_store.specs.declared.cell.Cell.TheVariants as cell
use Rattle.language_rules.specs.Perform.{special_of_cell}
use Rattle.language_rules.proofs.CellLaws.{read}
use Rattle.py_lists.proofs.operations.read_list.Goals as goal

pub returns : goal.returns
returns c = read (special_of_cell c.args.special c.args.number c.args.arguments.now) c.args.number c.args.store.now.cells (cell.List c.list_of.result.now) c.read_of_items.result c.list_of.ensures (c.read_of_items.ensures c.args.number)
