use Rattle.py_store.specs.declared.cell.Cell.TheVariants as cell
use Rattle.language_rules.specs.Perform.{special_of_cell}
use Rattle.py_dicts.proofs.CellLemmas.{read}
use Rattle.py_dicts.proofs.operations.read_dict.Goals as goal

pub returns : goal.returns
returns c =
    read (special_of_cell c.args.special c.args.number c.args.arguments.now) c.args.number c.args.store.now.cells (cell.Dict c.dict_of-shape.result.0.now c.dict_of-shape.result.1) c.read_of_dict.result
    c.dict_of-shape.ensures (c.read_of_dict.ensures c.args.number)
