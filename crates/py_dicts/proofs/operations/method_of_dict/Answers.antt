use Rattle.std.proofs.Common.{[], ◌∷◌}
use Rattle.object_operations.specs.declared.method.BuiltinMethod.TheVariants as method
use Rattle.py_store.specs.declared.cell.Cell.TheVariants as cell
use Rattle.language_rules.specs.DictMethods.{dict_method}
use Rattle.language_rules.specs.States.{set_cell}
use Rattle.py_dicts.proofs.ArgumentLemmas.{one_left, two_left, method_over}
use Rattle.py_dicts.proofs.CellLemmas.{read_changes}
use Rattle.py_dicts.proofs.operations.method_of_dict.Goals as goal

pub returns-in-len1-clause-comes : goal.returns-in-len1-clause-comes
returns-in-len1-clause-comes c =
    λ n s h. method_over c.args.method method.Get c.args.arguments.now (c.key-item.result ∷ []) n c.args.entries.now c.args.shape.now s (set_cell n (cell.Dict c.args.entries.now c.args.shape.now) s) c.get.result c.in-Get.is
    (one_left c.args.arguments.now c.key-item.result c.in-len1.len_at_least c.in-len1.len_below c.key-item.is)
    (read_changes (dict_method n c.args.entries.now c.args.shape.now method.Get (c.key-item.result ∷ [])) s n (cell.Dict c.args.entries.now c.args.shape.now) c.get.result h (c.get.ensures n s))

pub returns-in-len2-clause-comes : goal.returns-in-len2-clause-comes
returns-in-len2-clause-comes c =
    λ n s h. method_over c.args.method method.Get c.args.arguments.now (c.key-item-then-arguments-lt3.result ∷ c.otherwise-item.result ∷ []) n c.args.entries.now c.args.shape.now s (set_cell n (cell.Dict c.args.entries.now c.args.shape.now) s) c.get_or.result c.in-Get.is
    (two_left c.args.arguments.now c.key-item-then-arguments-lt3.result c.otherwise-item.result c.in-len2.len_at_least c.in-len2.len_below c.key-item-then-arguments-lt3.is c.otherwise-item.is)
    (read_changes (dict_method n c.args.entries.now c.args.shape.now method.Get (c.key-item-then-arguments-lt3.result ∷ c.otherwise-item.result ∷ [])) s n (cell.Dict c.args.entries.now c.args.shape.now) c.get_or.result h (c.get_or.ensures n s))
