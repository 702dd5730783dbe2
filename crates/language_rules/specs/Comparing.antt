-- Comparison of two values (Python Language Reference, "Comparisons").
use Rattle.std.specs.Prelude.{◌==◌, Bool, true, false, not, ◌&&◌, List, [], ◌∷◌, map, length, codes, Option, Some, None}
use Rattle.std.specs.Str.{bytes_eq}
use Rattle.rp_base.specs.declared.exceptions.Beyond.TheVariants as beyond
use Rattle.rp_base.specs.declared.exceptions.ExcKind.TheVariants as exception
use Rattle.rp_base.specs.declared.identity.IdPack.{IdPack}
use Rattle.rp_base.specs.declared.operators.CmpOp.{CmpOp}
use Rattle.rp_base.specs.declared.operators.CmpOp.TheVariants as cmp
use Rattle.rp_base.specs.declared.plain.Plain.{Plain}
use Rattle.rp_base.specs.declared.plain.Plain.TheOpen.{Plain-F}
use Rattle.rp_base.specs.declared.plain.Plain.TheVariants as plain
use Rattle.rp_base.specs.declared.value.Value.{Value}
use Rattle.rp_base.specs.declared.value.Value.TheOpen.{Value-F}
use Rattle.rp_base.specs.declared.value.Value.TheVariants as value
use Rattle.rp_base.specs.PlainValues.{look, gather}
use Rattle.rp_base.specs.Values.{look_value, gather_value}
use Rattle.py_plain.specs.Comparing.{compared}
use Rattle.object_operations.specs.declared.operation.Operation.TheVariants as operation
use Rattle.side_trees.specs.Trees.{bind}
use Rattle.language_rules.specs.Codes.{Gives, Step, Ends, Leaves}
use Rattle.language_rules.specs.Going.{RuleTree, on_value, carry, and_value, asked_step, raised_step}
use Rattle.language_rules.specs.Kinds.{is_reference}
use Rattle.language_rules.specs.Truth.{tells, tells_answer, truth_step, and_bool}

-- ---- the same object

abbrev pub same_identity : IdPack → IdPack → Bool
same_identity i j = bytes_eq i.name j.name && (i.class_no == j.class_no) && (i.inst_no == j.inst_no)

-- whether two values are references to one object
abbrev pub same_object : Value → Value → Bool
same_object (value.Own n) (value.Own m) = n == m
same_object (value.Proxy i) (value.Proxy j) = same_identity i j
same_object _ _ = false

-- ---- the items of a tuple, plain or not

abbrev pub plain_items : Plain-F Plain → Option (List Value)
plain_items (Plain-F.Tuple ps) = Some (map (λ p. value.Plain p) ps)
plain_items _ = None

abbrev pub value_items : Value-F Value → Option (List Value)
value_items (Value-F.Plain p) = plain_items (look p)
value_items (Value-F.Tuple vs) = Some vs
value_items _ = None

abbrev pub tuple_items : Value → Option (List Value)
tuple_items v = value_items (look_value v)

-- ---- operands that are asked

-- the comparison with its operands changed round
abbrev pub swapped : CmpOp → CmpOp
swapped cmp.Eq = cmp.Eq
swapped cmp.Ne = cmp.Ne
swapped cmp.Lt = cmp.Gt
swapped cmp.Le = cmp.Ge
swapped cmp.Gt = cmp.Lt
swapped cmp.Ge = cmp.Le

-- where neither operand tells: whether both are one object; there is no order
abbrev pub last_step : CmpOp → Value → Value → Step
last_step cmp.Eq a b = tells (same_object a b)
last_step cmp.Ne a b = tells (not (same_object a b))
last_step _ a b = raised_step exception.TypeError (plain.Text (codes "no order") ∷ [])

-- an answer, or what is to be done where it is NotImplemented
abbrev pub implemented : Step → Value → Step
implemented t (value.Plain plain.NotImpl) = t
implemented t v = Ends (Gives v)

-- an operand that is a reference is asked for its comparison with the other value; else, and on NotImplemented, it goes on
abbrev pub asks_operand : Value → CmpOp → Value → Step → Step
asks_operand a o b t = elim (is_reference a) [ true ↦ and_value (asked_step (operation.Cmp a o b)) (implemented t) | false ↦ t ]

-- the left operand is asked, and then the right one with the operands changed round
abbrev pub operands_step : CmpOp → Value → Value → Step
operands_step o a b = asks_operand a o b (asks_operand b (swapped o) a (last_step o a b))

-- ---- the pairs of two tuples

-- Whether the items of two tuples are equal pair by pair, up to the first pair that is not: a pair is equal where it is one object or compares equal. Beside each item of the first stands its `==`.
abbrev pub pairs_step : List (Value × (Value → Step)) → List Value → Step
pairs_step (x ∷ xs) (y ∷ ys) =
    elim (same_object x.0 y) [
      | true ↦ pairs_step xs ys
      | false ↦ and_bool (and_value (x.1 y) truth_step) (λ b. elim b [ true ↦ pairs_step xs ys | false ↦ tells false ])
    ]
pairs_step _ _ = tells true

-- tuples of other lengths are not compared
abbrev pub tuples_step : List (Value × (Value → Step)) → List Value → Step
tuples_step xs ys = elim (length xs == length ys) [ true ↦ pairs_step xs ys | false ↦ Leaves beyond.Compare ]

-- a tuple on the left: against a tuple, and against any other value
abbrev pub tuple_against : List (Value × (Value → Step)) → Value → Value → Option (List Value) → Step
tuple_against xs a b (Some ys) = tuples_step xs ys
tuple_against xs a b None = operands_step cmp.Eq a b

-- ---- `==`

-- The recursion is on the left value, so each item of it comes with its own `==`, as a function of the other value.
abbrev pub with_plain_tests : List (Plain → Value → Step) → List Plain → List (Value × (Value → Step))
with_plain_tests (f ∷ fs) (p ∷ ps) = (value.Plain p, f p) ∷ with_plain_tests fs ps
with_plain_tests _ _ = []

abbrev pub with_tests : List (Value → Value → Step) → List Value → List (Value × (Value → Step))
with_tests (f ∷ fs) (v ∷ vs) = (v, f v) ∷ with_tests fs vs
with_tests _ _ = []

-- a plain value on the left: one level of it with the `==` of each item, its items, and the value itself
abbrev pub plain_against : Plain-F (Plain → Value → Step) → Plain-F Plain → Plain → Value → Step
plain_against _ _ a (value.Plain b) = tells_answer (compared cmp.Eq a b)
plain_against (Plain-F.Tuple fs) (Plain-F.Tuple ps) a b = tuple_against (with_plain_tests fs ps) (value.Plain a) b (tuple_items b)
plain_against _ _ a b = operands_step cmp.Eq (value.Plain a) b

abbrev pub plain_equal_step : Plain-F (Plain → Value → Step) → Plain → Value → Step
plain_equal_step l a b = plain_against l (look a) a b

unfoldable pub plain_equals : Plain → Value → Step
plain_equals a b = gather (Plain → Value → Step) plain_equal_step a a b

-- any value on the left
abbrev pub value_against : Value-F (Value → Value → Step) → Value-F Value → Value → Value → Step
value_against (Value-F.Plain p) _ a b = plain_equals p b
value_against (Value-F.Tuple fs) (Value-F.Tuple vs) a b = tuple_against (with_tests fs vs) a b (tuple_items b)
value_against _ _ a b = operands_step cmp.Eq a b

abbrev pub value_equal_step : Value-F (Value → Value → Step) → Value → Value → Step
value_equal_step l a b = value_against l (look_value a) a b

unfoldable pub equals_step : Value → Value → Step
equals_step a b = gather_value (Value → Value → Step) value_equal_step a a b

-- ---- all comparisons

-- two tuples, of which one holds a reference: `!=` is the opposite of `==`, and they have no order here
abbrev pub tuples_compared : CmpOp → Value → Value → List Value → List Value → Step
tuples_compared cmp.Ne a b xs ys = and_bool (equals_step a b) (λ e. tells (not e))
tuples_compared _ a b xs ys = elim (length xs == length ys) [ true ↦ Leaves beyond.Order | false ↦ Leaves beyond.Compare ]

abbrev pub others_compared : CmpOp → Value → Value → Option (List Value) → Option (List Value) → Step
others_compared o a b (Some xs) (Some ys) = tuples_compared o a b xs ys
others_compared o a b _ _ = operands_step o a b

-- A comparison of two values. Plain values tell at once; two tuples are gone over pair by pair; else the operands that are references are asked. A method of a script may answer with any value.
abbrev pub compare_step : CmpOp → Value → Value → Step
compare_step cmp.Eq a b = equals_step a b
compare_step o (value.Plain p) (value.Plain q) = tells_answer (compared o p q)
compare_step o a b = others_compared o a b (tuple_items a) (tuple_items b)

abbrev pub compares : CmpOp → Value → Value → (Value → RuleTree) → RuleTree
compares o a b f = bind (carry (compare_step o a b)) (on_value f)

-- whether x is found in the item e: one object, or x == e is true
abbrev pub found_step : Value → Value → Step
found_step x e = elim (same_object x e) [ true ↦ tells true | false ↦ and_value (compare_step cmp.Eq x e) truth_step ]
