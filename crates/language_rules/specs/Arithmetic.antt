-- Arithmetic methods of objects (Python Language Reference, "Emulating numeric types" and "Binary arithmetic operations").
use Rattle.std.specs.Prelude.{ℕ, suc, ◌+◌, ◌*◌, nat_lt, ℤ, List, [], ◌∷◌, ◌++◌, length, Option, Some, None, pos, if◌then◌else◌}
use Rattle.std.specs.List.{repeat}
use Rattle.rp_base.specs.declared.exceptions.Beyond.TheVariants as beyond
use Rattle.rp_base.specs.declared.identity.Kind.{Kind}
use Rattle.rp_base.specs.declared.identity.Kind.TheVariants as kind
use Rattle.rp_base.specs.declared.plain.Plain.TheVariants as plain
use Rattle.rp_base.specs.declared.value.Value.{Value}
use Rattle.rp_base.specs.declared.value.Value.TheVariants as value
use Rattle.py_plain.specs.Arithmetic.{is_count, count_of}
use Rattle.object_operations.specs.declared.operation.Operation.TheVariants as operation
use Rattle.object_operations.specs.declared.special.Special.{Special}
use Rattle.object_operations.specs.declared.special.Special.TheVariants as special
use Rattle.object_operations.specs.Names.{special_name}
use Rattle.py_store.specs.declared.cell.Cell.{Cell}
use Rattle.py_store.specs.declared.cell.Cell.TheVariants as cell
use Rattle.side_trees.specs.Trees.{Return, Stop}
use Rattle.language_rules.specs.Answers.{gives}
use Rattle.language_rules.specs.Attributes.{calls_method, by_method}
use Rattle.language_rules.specs.Codes.{Completion, AddItem}
use Rattle.language_rules.specs.Draining.{drains}
use Rattle.language_rules.specs.Entries.{within_items}
use Rattle.language_rules.specs.Going.{RuleTree, nowhere, sets_cell, gives_new, on_value, operates, asks}
use Rattle.language_rules.specs.Kinds.{on_kind}
use Rattle.language_rules.specs.Operators.{unsupported}
use Rattle.language_rules.specs.PlainItems.{number}
use Rattle.language_rules.specs.Searching.{reads_list}
use Rattle.language_rules.specs.TextFunctions.{as_int}

-- ---- a list and another list

-- The new list of these items and those of the other from position i on. The other has n of them, and each is asked.
abbrev pub adds_from : Value → ℕ → ℕ → List Value → RuleTree
adds_from other n i made =
    if nat_lt i n then operates (operation.Special other special.GetItem (number i ∷ [])) (λ a. AddItem other n i made a) (λ a. Return a)
    else gives_new (cell.List made)

-- on with the answer for the item at position i
abbrev pub add_item_rule : Value → ℕ → ℕ → List Value → Completion → RuleTree
add_item_rule other n i made a = on_value (λ item. adds_from other n (suc i) (made ++ (item ∷ []))) a

-- the length of both is judged, and the list's own items are taken, when the other's length is known
abbrev pub adds_length : ℕ → Value → Value → RuleTree
adds_length list other (value.Plain (plain.Int (pos n))) = reads_list list (λ items. within_items (length items + n) (adds_from other n 0 items))
adds_length list other _ = nowhere

-- `list + other`
abbrev pub adds_list : ℕ → Value → Option Kind → RuleTree
adds_list list other (Some kind.List) = asks (operation.Special other special.Len []) (adds_length list other)
adds_list list other _ = unsupported

-- ---- copies of a list's items

-- `list * n`: the count is judged first, then the number of items
abbrev pub multiplies : List Value → Option ℤ → RuleTree
multiplies items (Some z) =
    if is_count z then within_items (length items * count_of z) (gives_new (cell.List (repeat (count_of z) items)))
    else Stop beyond.Int
multiplies items None = unsupported

-- ---- methods of instances

-- what an arithmetic method gave
abbrev pub gives_result : Value → RuleTree
gives_result (value.Plain plain.NotImpl) = unsupported
gives_result v = gives v

-- the method of this operator is called with the other operand
abbrev pub calls_operator : ℕ → Special → Value → RuleTree → RuleTree
calls_operator n operator x missing = calls_method n (special_name operator) (x ∷ []) gives_result missing

-- ---- differences

-- Python takes what may be gone over, less the keys of a view; such sets are left out
abbrev pub less_view : Option Kind → RuleTree
less_view (Some kind.View) = Stop beyond.Operator
less_view _ = unsupported

-- an instance may be gone over by `__iter__` or by `__getitem__`
abbrev pub less_instance : ℕ → Option Kind → RuleTree
less_instance n (Some kind.View) = by_method n (special_name special.Iter) (Stop beyond.Operator) (by_method n (special_name special.GetItem) (Stop beyond.Operator) unsupported)
less_instance n _ = unsupported

-- ---- the operations

-- `__add__`
abbrev pub add_rule : ℕ → Value → Cell → RuleTree
add_rule n x (cell.List items) = on_kind x (adds_list n x)
add_rule n x (cell.Instance class_no attributes) = calls_operator n special.Add x unsupported
add_rule n x _ = unsupported

-- `__sub__`
abbrev pub subtract_rule : ℕ → Value → Cell → RuleTree
subtract_rule n x (cell.View dict which) = Stop beyond.Operator
subtract_rule n x (cell.Instance class_no attributes) = calls_operator n special.Sub x (on_kind x (less_instance n))
subtract_rule n x (cell.List items) = on_kind x less_view
subtract_rule n x (cell.Dict entries shape) = on_kind x less_view
subtract_rule n x (cell.Namespace names reserved) = on_kind x less_view
subtract_rule n x (cell.Range start stop step) = on_kind x less_view
subtract_rule n x (cell.Iter source at shape) = on_kind x less_view
subtract_rule n x _ = unsupported

-- `__mul__`
abbrev pub multiply_rule : ℕ → Value → Cell → RuleTree
multiply_rule n x (cell.List items) = multiplies items (as_int x)
multiply_rule n x (cell.Instance class_no attributes) = calls_operator n special.Mul x unsupported
multiply_rule n x _ = unsupported

-- `__floordiv__` and `__mod__`
abbrev pub operator_rule : Special → ℕ → Value → Cell → RuleTree
operator_rule operator n x (cell.Instance class_no attributes) = calls_operator n operator x unsupported
operator_rule operator n x _ = unsupported

-- `__neg__`, whose value is the answer whatever it is
abbrev pub negate_rule : ℕ → Cell → RuleTree
negate_rule n (cell.Instance class_no attributes) = calls_method n (special_name special.Neg) [] gives unsupported
negate_rule n _ = unsupported

-- a list gets more items behind its own; they are all there before
abbrev pub extends : ℕ → Value → RuleTree → RuleTree
extends n x t = drains x (λ more. reads_list n (λ items. within_items (length items + length more) (sets_cell n (cell.List (items ++ more)) t)))

-- `__iadd__` of a list: the list itself, with more items
abbrev pub extend_rule : ℕ → Value → Cell → RuleTree
extend_rule n x (cell.List items) = extends n x (gives (value.Own n))
extend_rule n x _ = unsupported
