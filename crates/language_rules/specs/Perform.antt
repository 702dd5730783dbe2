-- An operation, carried out at its receiver's home (Python Language Reference, "Special method names"; RPyC's module `protocol`).
use Rattle.std.specs.Prelude.{ℕ, List, [], ◌∷◌}
use Rattle.rp_base.specs.declared.operators.CmpOp.{CmpOp}
use Rattle.rp_base.specs.declared.value.Value.{Value}
use Rattle.rp_base.specs.declared.value.Value.TheVariants as value
use Rattle.object_operations.specs.declared.operation.Operation.{Operation}
use Rattle.object_operations.specs.declared.operation.Operation.TheVariants as operation
use Rattle.object_operations.specs.declared.special.Special.{Special}
use Rattle.object_operations.specs.declared.special.Special.TheVariants as special
use Rattle.object_operations.specs.declared.method.BuiltinMethod.TheVariants as method
use Rattle.py_store.specs.declared.cell.Cell.{Cell}
use Rattle.py_store.specs.declared.cell.Cell.TheVariants as cell
use Rattle.language_rules.specs.Answers.{gives}
use Rattle.language_rules.specs.Arithmetic.{add_rule, subtract_rule, multiply_rule, operator_rule, negate_rule, extend_rule}
use Rattle.language_rules.specs.Attributes.{get_attribute, set_attribute, delete_attribute}
use Rattle.language_rules.specs.Calls.{call_value}
use Rattle.language_rules.specs.CellComparing.{cell_compare}
use Rattle.language_rules.specs.Containing.{contains_rule}
use Rattle.language_rules.specs.Going.{RuleTree, nowhere, reads_cell}
use Rattle.language_rules.specs.Items.{get_item_rule, set_item_rule, delete_item_rule}
use Rattle.language_rules.specs.Iterating.{iter_rule, iter_plain_rule, next_rule}
use Rattle.language_rules.specs.Lengths.{length_rule, truth_rule}
use Rattle.language_rules.specs.PlainItems.{no_items}
use Rattle.language_rules.specs.Printing.{cell_str, cell_repr}
use Rattle.language_rules.specs.RootMethods.{root_method}
use Rattle.language_rules.specs.States.{root_number}

-- the root's `getmodule` takes whatever it is given
abbrev pub module_rule : List Value → Cell → RuleTree
module_rule arguments cell.Root = root_method method.GetModule arguments
module_rule arguments _ = nowhere

-- a special operation on an object; each has its number of arguments
abbrev pub special_of_cell : Special → ℕ → List Value → Cell → RuleTree
special_of_cell special.Len n [] c = length_rule n c
special_of_cell special.Bool n [] c = truth_rule n c
special_of_cell special.GetItem n (key ∷ []) c = get_item_rule n key c
special_of_cell special.SetItem n (key ∷ v ∷ []) c = set_item_rule n key v c
special_of_cell special.DelItem n (key ∷ []) c = delete_item_rule n key c
special_of_cell special.Contains n (x ∷ []) c = contains_rule n x c
special_of_cell special.Iter n [] c = iter_rule n c
special_of_cell special.Next n [] c = next_rule n c
special_of_cell special.Add n (x ∷ []) c = add_rule n x c
special_of_cell special.Sub n (x ∷ []) c = subtract_rule n x c
special_of_cell special.Mul n (x ∷ []) c = multiply_rule n x c
special_of_cell special.FloorDiv n (x ∷ []) c = operator_rule special.FloorDiv n x c
special_of_cell special.Mod n (x ∷ []) c = operator_rule special.Mod n x c
special_of_cell special.Neg n [] c = negate_rule n c
special_of_cell special.IAdd n (x ∷ []) c = extend_rule n x c
special_of_cell special.GetModule n arguments c = module_rule arguments c
special_of_cell _ n arguments c = nowhere

-- Of what is no reference only this is asked as an operation: `__iter__`, and to set or delete an item, which nothing of this kind has.
abbrev pub special_of_plain : Special → Value → List Value → RuleTree
special_of_plain special.Iter v [] = iter_plain_rule v
special_of_plain special.SetItem v (key ∷ item ∷ []) = no_items
special_of_plain special.DelItem v (key ∷ []) = no_items
special_of_plain _ v arguments = nowhere

-- of an object, or of what is no reference
abbrev pub special_rule : Special → Value → List Value → RuleTree
special_rule operator (value.Own n) arguments = reads_cell n (special_of_cell operator n arguments)
special_rule operator v arguments = special_of_plain operator v arguments

-- the root, which is a side's second cell
abbrev pub gives_root : Cell → RuleTree
gives_root cell.Root = gives (value.Own root_number)
gives_root _ = nowhere

-- comparing and printing are asked of objects alone
abbrev pub compare_rule : Value → CmpOp → Value → RuleTree
compare_rule (value.Own n) op other = cell_compare n op other
compare_rule _ op other = nowhere

-- `str`
abbrev pub str_rule : Value → RuleTree
str_rule (value.Own n) = cell_str n
str_rule _ = nowhere

-- `repr`
abbrev pub repr_rule : Value → RuleTree
repr_rule (value.Own n) = cell_repr n
repr_rule _ = nowhere

-- the operation, after its unit
abbrev pub perform : Operation → RuleTree
perform operation.GetRoot = reads_cell root_number gives_root
perform (operation.GetAttr receiver name) = get_attribute receiver name
perform (operation.SetAttr receiver name v) = set_attribute receiver name v
perform (operation.DelAttr receiver name) = delete_attribute receiver name
perform (operation.Call callee arguments) = call_value callee arguments
perform (operation.Special receiver operator arguments) = special_rule operator receiver arguments
perform (operation.Cmp receiver op other) = compare_rule receiver op other
perform (operation.Str receiver) = str_rule receiver
perform (operation.Repr receiver) = repr_rule receiver
