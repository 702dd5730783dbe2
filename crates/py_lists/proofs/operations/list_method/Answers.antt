use Rattle.py_store.specs.declared.cell.Cell.TheVariants as cell
use Rattle.language_rules.specs.Calls.{method_of_cell}
use Rattle.language_rules.proofs.CellLaws.{carried}
use Rattle.py_lists.proofs.CellLemmas.{kept_store}
use Rattle.py_lists.proofs.operations.list_method.Goals as goal

pub returns-clause-comes : goal.returns-clause-comes
returns-clause-comes c =
    carried (method_of_cell c.args.number c.args.method c.args.arguments.now) c.args.number c.args.store.now c.take_list-items.new.store c.put_list.new.store (cell.List c.take_list-items.result) cell.Root (cell.List c.method_of_items-answer.new.items) c.method_of_items-answer.result
    c.take_list-items.ensures.items c.take_list-items.ensures.left c.put_list.ensures (λ s h. c.method_of_items-answer.ensures.comes c.args.number s)

pub returns-clause-kept : goal.returns-clause-kept
returns-clause-kept c =
    kept_store c.method_of_items-answer.result c.args.store.now c.take_list-items.new.store c.put_list.new.store c.args.number c.take_list-items.result c.method_of_items-answer.new.items
    c.take_list-items.ensures.items c.take_list-items.ensures.left c.put_list.ensures c.method_of_items-answer.ensures.kept
