-- The comparison that one operand is asked for, where it lives (Python Language Reference, "Basic customization"; RPyC's module `protocol`).
use Rattle.std.specs.Prelude.{ℕ, suc, ◌==◌, Bool, true, false, not, pos, List, [], ◌∷◌, length, slice_get, codes, Option, Some, None}
use Rattle.rp_base.specs.declared.exceptions.Beyond.TheVariants as beyond
use Rattle.rp_base.specs.declared.exceptions.ExcKind.{ExcKind}
use Rattle.rp_base.specs.declared.exceptions.ExcKind.TheVariants as exception
use Rattle.rp_base.specs.declared.exceptions.Raised.{Raised}
use Rattle.rp_base.specs.declared.identity.Kind.{Kind}
use Rattle.rp_base.specs.declared.identity.Kind.TheVariants as kind
use Rattle.rp_base.specs.declared.operators.CmpOp.{CmpOp}
use Rattle.rp_base.specs.declared.operators.CmpOp.TheVariants as cmp
use Rattle.rp_base.specs.declared.plain.Plain.TheVariants as plain
use Rattle.rp_base.specs.declared.value.Value.{Value}
use Rattle.rp_base.specs.declared.value.Value.TheVariants as value
use Rattle.py_store.specs.declared.cell.Cell.{Cell}
use Rattle.py_store.specs.declared.cell.Cell.TheVariants as cell
use Rattle.object_operations.specs.declared.operation.Operation.TheVariants as operation
use Rattle.object_operations.specs.declared.special.Special.TheVariants as special
use Rattle.side_trees.specs.Trees.{Return, Stop, bind}
use Rattle.language_rules.specs.Codes.{Completion, Gives, Raises, EqualItem}
use Rattle.language_rules.specs.Going.{RuleTree, boolean, nowhere, reads_cell, operates, asks, carry}
use Rattle.language_rules.specs.Kinds.{on_kind}
use Rattle.language_rules.specs.Attributes.{calls_method}
use Rattle.language_rules.specs.Truth.{on_bool, on_truth}
use Rattle.language_rules.specs.Comparing.{found_step}
use Rattle.language_rules.specs.Searching.{reads_list}

-- the operand does not know the answer
abbrev pub not_implemented : RuleTree
not_implemented = Return (Gives (value.Plain plain.NotImpl))

-- ---- a list with another list, own or not

-- what `==` or `!=` tells of two lists that are equal, or not
abbrev pub equality : CmpOp → Bool → RuleTree
equality cmp.Ne b = Return (Gives (boolean (not b)))
equality _ b = Return (Gives (boolean b))

-- on with a length that was asked
abbrev pub on_length_value : (ℕ → RuleTree) → Value → RuleTree
on_length_value f (value.Plain (plain.Int (pos m))) = f m
on_length_value f _ = nowhere

abbrev pub asks_length : Value → (ℕ → RuleTree) → RuleTree
asks_length other f = asks (operation.Special other special.Len []) (on_length_value f)

-- the own items, as many as there were
abbrev pub same_length : ℕ → ℕ → (List Value → RuleTree) → RuleTree
same_length n len f = reads_list n (λ items. elim (length items == len) [ true ↦ f items | false ↦ Stop beyond.Changed ])

-- At the end the other is asked for its length once more.
abbrev pub ends_equality : ℕ → Value → CmpOp → ℕ → Bool → RuleTree
ends_equality n other o len b = asks_length other (λ m. same_length n len (λ items. elim (m == len) [ true ↦ equality o b | false ↦ Stop beyond.Changed ]))

-- from a position on: the other is asked for its item there
abbrev pub equal_from : ℕ → Value → CmpOp → ℕ → ℕ → RuleTree
equal_from n other o len i = elim (i == len) [
  | true ↦ ends_equality n other o len true
  | false ↦ operates (operation.Special other special.GetItem (value.Plain (plain.Int (pos i)) ∷ [])) (λ a. EqualItem n other o len i a) (λ a. Return a)
]

-- the pair at a position: where it is one object or equal, on to the next position, and else to the end
abbrev pub pair_compared : ℕ → Value → CmpOp → ℕ → ℕ → Value → Option Value → RuleTree
pair_compared n other o len i y (Some x) = bind (carry (found_step x y)) (on_bool (λ b. same_length n len (λ items. elim b [ true ↦ equal_from n other o len (suc i) | false ↦ ends_equality n other o len false ])))
pair_compared n other o len i y None = nowhere

-- the other has no such item any more; any other exception is handed on
abbrev pub item_raised : Raised → ExcKind → RuleTree
item_raised r exception.IndexError = Stop beyond.Changed
item_raised r _ = Return (Raises r)

-- the comparison from the other's item at a position on
abbrev pub equal_item_rule : ℕ → Value → CmpOp → ℕ → ℕ → Completion → RuleTree
equal_item_rule n other o len i (Gives y) = same_length n len (λ items. pair_compared n other o len i y (slice_get items i))
equal_item_rule n other o len i (Raises r) = item_raised r r.kind
equal_item_rule n other o len i a = Return a

-- by the length of the other, and then item by item
abbrev pub equal_lists : ℕ → Value → CmpOp → RuleTree
equal_lists n other o = asks_length other (λ m. reads_list n (λ items. elim (length items == m) [ true ↦ equal_from n other o m 0 | false ↦ equality o false ]))

-- lists have no order here
abbrev pub lists_compared : ℕ → Value → CmpOp → RuleTree
lists_compared n other cmp.Eq = equal_lists n other cmp.Eq
lists_compared n other cmp.Ne = equal_lists n other cmp.Ne
lists_compared n other _ = Stop beyond.Order

-- ---- an instance: by the method of its class

-- `!=` is the opposite of `__eq__`
abbrev pub method_of : CmpOp → List ℕ
method_of cmp.Eq = codes "__eq__"
method_of cmp.Ne = codes "__eq__"
method_of cmp.Lt = codes "__lt__"
method_of cmp.Le = codes "__le__"
method_of cmp.Gt = codes "__gt__"
method_of cmp.Ge = codes "__ge__"

-- what `__eq__` gave, turned round, unless it is NotImplemented
abbrev pub turned : Value → RuleTree
turned (value.Plain plain.NotImpl) = not_implemented
turned v = on_truth v (λ b. Return (Gives (boolean (not b))))

abbrev pub method_gave : CmpOp → Value → RuleTree
method_gave cmp.Ne v = turned v
method_gave _ v = Return (Gives v)

-- the method is called with the other value; without it the answer is not known
abbrev pub instance_compare : ℕ → CmpOp → Value → RuleTree
instance_compare n o other = calls_method n (method_of o) (other ∷ []) (method_gave o) not_implemented

-- ---- the operation, by the kinds of both; a namespace is a dict

abbrev pub cells_compared : ℕ → CmpOp → Value → Cell → Option Kind → RuleTree
cells_compared n o other (cell.List items) (Some kind.List) = lists_compared n other o
cells_compared n o other (cell.Dict entries shape) (Some kind.Dict) = Stop beyond.Compare
cells_compared n o other (cell.Dict entries shape) (Some kind.Namespace) = Stop beyond.Compare
cells_compared n o other (cell.Namespace names reserved) (Some kind.Dict) = Stop beyond.Compare
cells_compared n o other (cell.Namespace names reserved) (Some kind.Namespace) = Stop beyond.Compare
cells_compared n o other (cell.Range start stop step) (Some kind.Range) = Stop beyond.Compare
cells_compared n o other (cell.View dict which) (Some kind.View) = Stop beyond.Compare
cells_compared n o other (cell.Bound receiver method) (Some kind.Bound) = Stop beyond.Compare
cells_compared n o other (cell.Bound receiver method) (Some kind.HostFunc) = Stop beyond.Compare
cells_compared n o other (cell.HostFunc host name) (Some kind.Bound) = Stop beyond.Compare
cells_compared n o other (cell.HostFunc host name) (Some kind.HostFunc) = Stop beyond.Compare
cells_compared n o other (cell.Instance class_no attributes) k = instance_compare n o other
cells_compared n o other _ _ = not_implemented

abbrev pub cell_compare : ℕ → CmpOp → Value → RuleTree
cell_compare n o other = reads_cell n (λ c. on_kind other (cells_compared n o other c))
