-- Operators (Python Language Reference, "Unary arithmetic and bitwise operations" to "Binary bitwise operations", and "Augmented assignment statements").
use Rattle.std.specs.Prelude.{Bool, true, false, ◌&&◌, ◌||◌, ℤ, List, [], ◌∷◌, ◌++◌, codes, is_some, Option, Some, None, if◌then◌else◌}
use Rattle.std.specs.List.{repeat}
use Rattle.rp_base.specs.declared.exceptions.Beyond.TheVariants as beyond
use Rattle.rp_base.specs.declared.identity.Kind.{Kind}
use Rattle.rp_base.specs.declared.identity.Kind.TheVariants as kind
use Rattle.rp_base.specs.declared.operators.BinaryOp.{BinaryOp}
use Rattle.rp_base.specs.declared.operators.BinaryOp.TheVariants as op
use Rattle.rp_base.specs.declared.operators.UnaryOp.{UnaryOp}
use Rattle.rp_base.specs.declared.operators.UnaryOp.TheVariants as unary_op
use Rattle.rp_base.specs.declared.plain.Plain.TheVariants as plain
use Rattle.rp_base.specs.declared.value.Value.{Value}
use Rattle.rp_base.specs.declared.value.Value.TheVariants as value
use Rattle.rp_base.specs.Values.{tuple_of}
use Rattle.py_plain.specs.Arithmetic.{unary, binary, is_count, count_of}
use Rattle.object_operations.specs.declared.operation.Operation.TheVariants as operation
use Rattle.object_operations.specs.declared.special.Special.{Special}
use Rattle.object_operations.specs.declared.special.Special.TheVariants as special
use Rattle.side_trees.specs.Trees.{Stop}
use Rattle.language_rules.specs.Answers.{answers, tuple_answers, asked}
use Rattle.language_rules.specs.Comparing.{tuple_items}
use Rattle.language_rules.specs.Going.{RuleTree, type_error}
use Rattle.language_rules.specs.Kinds.{on_kind, is_reference}
use Rattle.language_rules.specs.TextFunctions.{as_int}

-- no operator takes these operands
abbrev pub unsupported : RuleTree
unsupported = type_error (codes "unsupported operand")

-- an operator that Python defines here, but this language does not; or that Python does not define
abbrev pub left_out : Bool → RuleTree
left_out true = Stop beyond.Operator
left_out false = unsupported

-- ---- unary operators

-- a unary operator ("Unary arithmetic and bitwise operations"): `-` of an object is asked of it, and no object has `+` or `~`
unfoldable pub unary_rule : UnaryOp → Value → RuleTree
unary_rule o (value.Plain p) = answers (unary o p)
unary_rule unary_op.Neg v = if is_reference v then asked (operation.Special v special.Neg []) else unsupported
unary_rule _ v = unsupported

-- ---- tuples in which references may stand

-- one tuple behind the other
abbrev pub tuples_sum : Option (List Value) → Option (List Value) → RuleTree
tuples_sum (Some xs) (Some ys) = tuple_answers (tuple_of (xs ++ ys))
tuples_sum _ _ = unsupported

-- copies of a tuple: none where the int is not above 0, and the int is one of 64 bits
abbrev pub tuple_copies : Option (List Value) → Option ℤ → RuleTree
tuple_copies (Some xs) (Some n) = if is_count n then tuple_answers (tuple_of (repeat (count_of n) xs)) else Stop beyond.Int
tuple_copies _ _ = unsupported

-- an int on either side of a tuple
abbrev pub tuple_product : Value → Value → RuleTree
tuple_product a b = elim (as_int a) [ Some n ↦ tuple_copies (tuple_items b) (Some n) | None ↦ tuple_copies (tuple_items a) (as_int b) ]

-- a text or a byte string, into which `%` would put values
abbrev pub is_format : Value → Bool
is_format (value.Plain (plain.Text t)) = true
is_format (value.Plain (plain.Bytes b)) = true
is_format _ = false

-- two operands that are no references, of which one is a tuple that holds one
abbrev pub tuple_rule : BinaryOp → Value → Value → RuleTree
tuple_rule op.Add a b = tuples_sum (tuple_items a) (tuple_items b)
tuple_rule op.Mul a b = tuple_product a b
tuple_rule op.Mod a b = left_out (is_format a)
tuple_rule _ a b = unsupported

-- two operands that are no references
abbrev pub value_rule : BinaryOp → Value → Value → RuleTree
value_rule o (value.Plain p) (value.Plain q) = answers (binary o p q)
value_rule o a b = tuple_rule o a b

-- ---- operators that no object is asked for

-- an operand: a value, and its kind where it is a reference
abbrev pub Operand : Type 0
Operand = Value × Option Kind

-- a dict, and the namespace, which is one; a view of a dict; a class; a list
abbrev pub is_dict : Operand → Bool
is_dict (v, Some kind.Dict) = true
is_dict (v, Some kind.Namespace) = true
is_dict _ = false

abbrev pub is_view : Operand → Bool
is_view (v, Some kind.View) = true
is_view _ = false

abbrev pub is_class : Operand → Bool
is_class (v, Some kind.Class) = true
is_class _ = false

abbrev pub is_list : Operand → Bool
is_list (v, Some kind.List) = true
is_list _ = false

-- a text, a byte string or a tuple
abbrev pub is_series : Value → Bool
is_series v = is_format v || is_some (tuple_items v)

-- the objects that may have items to go over
abbrev pub is_iterable : Operand → Bool
is_iterable (v, Some kind.List) = true
is_iterable (v, Some kind.Dict) = true
is_iterable (v, Some kind.Namespace) = true
is_iterable (v, Some kind.Range) = true
is_iterable (v, Some kind.Iter) = true
is_iterable (v, Some kind.View) = true
is_iterable (v, Some kind.Instance) = true
is_iterable (v, Some k) = false
is_iterable (v, None) = is_series v

-- a view stands on the left, or on the right of what may be gone over: the operators of sets
abbrev pub has_view : Operand → Operand → Bool
has_view a b = is_view a || (is_iterable a && is_view b)

-- Whether Python defines an operator between two operands of which one is a reference: those of sets with a view, `|` with a class or of two dicts, an int times a list, and `%` of a text or a byte string.
abbrev pub is_defined : BinaryOp → Operand → Operand → Bool
is_defined op.Sub a b = has_view a b
is_defined op.And a b = has_view a b
is_defined op.Xor a b = has_view a b
is_defined op.Or a b = has_view a b || is_class a || is_class b || (is_dict a && is_dict b)
is_defined op.Mul a b = is_some (as_int a.0) && is_list b
is_defined op.Mod a b = is_format a.0
is_defined _ a b = false

-- what becomes of an operator that is decided where the code runs: nothing is asked, and no unit is due
abbrev pub unasked_rule : BinaryOp → Value → Value → RuleTree
unasked_rule o a b = on_kind a (λ k. on_kind b (λ l. left_out (is_defined o (a, k) (b, l))))

-- ---- binary operators

-- what is asked of an object on the left
abbrev pub special_for : BinaryOp → Option Special
special_for op.Add = Some special.Add
special_for op.Sub = Some special.Sub
special_for op.Mul = Some special.Mul
special_for op.FloorDiv = Some special.FloorDiv
special_for op.Mod = Some special.Mod
special_for _ = None

-- an object on the left is asked where the operator has a name to ask by
abbrev pub object_rule : Option Special → BinaryOp → Value → Value → RuleTree
object_rule (Some s) o a b = asked (operation.Special a s (b ∷ []))
object_rule None o a b = unasked_rule o a b

-- a binary operator ("Binary arithmetic operations", "Shifting operations", "Binary bitwise operations"); nothing is asked of an object that stands on the right alone
unfoldable pub binary_rule : BinaryOp → Value → Value → RuleTree
binary_rule o a b =
    if is_reference a then object_rule (special_for o) o a b
    else (if is_reference b then unasked_rule o a b else value_rule o a b)

-- ---- augmented assignment

-- `|=` of a dict with what may have items
abbrev pub update_rule : Value → RuleTree
update_rule b = on_kind b (λ l. left_out (is_iterable (b, l) || is_class (b, l)))

-- What `x op= y` binds, by the kind of x ("Augmented assignment statements"). `+=` of a list is `__iadd__`; `*=` of a list and `|=` of a dict are decided where the code runs; all else is the binary operator.
abbrev pub augmented_at : BinaryOp → Value → Value → Option Kind → RuleTree
augmented_at op.Add a b (Some kind.List) = asked (operation.Special a special.IAdd (b ∷ []))
augmented_at op.Mul a b (Some kind.List) = left_out (is_some (as_int b))
augmented_at op.Or a b (Some kind.Dict) = update_rule b
augmented_at op.Or a b (Some kind.Namespace) = update_rule b
augmented_at o a b k = binary_rule o a b

abbrev pub augmented_rule : BinaryOp → Value → Value → RuleTree
augmented_rule o a b = on_kind a (augmented_at o a b)
