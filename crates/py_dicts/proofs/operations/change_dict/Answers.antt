use Rattle.py_store.specs.declared.cell.Cell.TheVariants as cell
use Rattle.language_rules.specs.Perform.{special_of_cell}
use Rattle.py_dicts.proofs.CellLemmas.{carried, kept_store}
use Rattle.py_dicts.proofs.operations.change_dict.Goals as goal

pub returns-clause-comes : goal.returns-clause-comes
returns-clause-comes c =
    carried (special_of_cell c.args.special c.args.number c.args.arguments.now) c.args.number c.args.store.now c.take_dict-entries.new.store c.put_dict.new.store
    (cell.Dict c.take_dict-entries.result.0 c.take_dict-entries.result.1) cell.Root (cell.Dict c.change_of_dict-answer.new.entries c.change_of_dict-answer.new.shape) c.change_of_dict-answer.result
    c.take_dict-entries.ensures.dict c.take_dict-entries.ensures.left c.put_dict.ensures (c.change_of_dict-answer.ensures.comes c.args.number)

pub returns-clause-kept : goal.returns-clause-kept
returns-clause-kept c =
    kept_store c.change_of_dict-answer.result c.args.store.now c.take_dict-entries.new.store c.put_dict.new.store c.args.number
    c.take_dict-entries.result.0 c.change_of_dict-answer.new.entries c.take_dict-entries.result.1 c.change_of_dict-answer.new.shape
    c.take_dict-entries.ensures.dict c.take_dict-entries.ensures.left c.put_dict.ensures c.change_of_dict-answer.ensures.kept
