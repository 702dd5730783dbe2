-- Going over a whole collection, and unpacking it (Python Language Reference, "Assignment statements"; Python Library Reference, "Iterator Types").
use Rattle.std.specs.Prelude.{if◌then◌else◌, ℕ, Result, Err, ◌==◌, true, false, nat_lt, pos, List, [], ◌∷◌, ◌++◌, map, length, codes, Option, Some, None, chars, encode_utf8_all}
use Rattle.rp_base.specs.declared.exceptions.Beyond.{Beyond}
use Rattle.rp_base.specs.declared.exceptions.Beyond.TheVariants as beyond
use Rattle.rp_base.specs.declared.exceptions.ExcKind.{ExcKind}
use Rattle.rp_base.specs.declared.exceptions.ExcKind.TheVariants as exception
use Rattle.rp_base.specs.declared.exceptions.Raised.{Raised}
use Rattle.rp_base.specs.declared.identity.Kind.{Kind}
use Rattle.rp_base.specs.declared.identity.Kind.TheVariants as kind
use Rattle.rp_base.specs.declared.plain.Plain.TheVariants as plain
use Rattle.rp_base.specs.declared.value.Value.{Value}
use Rattle.rp_base.specs.declared.value.Value.TheVariants as value
use Rattle.rp_base.specs.declared.ends.TupleEnd.{TupleEnd}
use Rattle.rp_base.specs.declared.ends.TupleEnd.TheVariants as tuple_end
use Rattle.rp_base.specs.Values.{tuple_of}
use Rattle.object_operations.specs.declared.operation.Operation.TheVariants as operation
use Rattle.object_operations.specs.declared.special.Special.TheVariants as special
use Rattle.side_trees.specs.Trees.{Return, Stop, bind}
use Rattle.language_rules.specs.Codes.{Completion, Gives, Raises, Drained, Container, AList, ATuple, DrainNext}
use Rattle.language_rules.specs.Going.{RuleTree, text, fails, type_error, on_items, operates, asks}
use Rattle.language_rules.specs.Kinds.{on_kind}
use Rattle.language_rules.specs.Comparing.{tuple_items}

-- ---- at hand

-- the characters of a text, each a text; the bytes of a byte string, each an int
abbrev pub characters_of : List ℕ → List Value
characters_of t = map (λ c. text (encode_utf8_all (c ∷ []))) (chars t)

abbrev pub ints_of_bytes : List ℕ → List Value
ints_of_bytes bs = map (λ b. value.Plain (plain.Int (pos b))) bs

-- the items of a value that is no reference, where it has any
abbrev pub items_at_hand : Value → Option (List Value)
items_at_hand (value.Plain (plain.Text t)) = Some (characters_of t)
items_at_hand (value.Plain (plain.Bytes bs)) = Some (ints_of_bytes bs)
items_at_hand v = tuple_items v

-- ---- by asking

-- the greatest number of items of a list
abbrev pub most_items : ℕ
most_items = 1048576

abbrev pub limit_passed : Result Value TupleEnd → Option Beyond
limit_passed (Err (tuple_end.Beyond b)) = Some b
limit_passed _ = None

-- the limit that a list or a tuple of these items passes
abbrev pub passes : Container → List Value → Option Beyond
passes AList items = if nat_lt most_items (length items) then Some beyond.Size else None
passes ATuple items = limit_passed (tuple_of items)

abbrev pub within_limit : RuleTree → Option Beyond → RuleTree
within_limit t None = t
within_limit t (Some b) = Stop b

abbrev pub asks_next : Container → Value → List Value → RuleTree
asks_next container iterator items = operates (operation.Special iterator special.Next []) (λ a. DrainNext container iterator items a) (λ a. Return a)

-- `__iter__` is asked, and then `__next__` until StopIteration
abbrev pub goes_over : Container → Value → (List Value → RuleTree) → RuleTree
goes_over container v f = asks (operation.Special v special.Iter []) (λ iterator. bind (asks_next container iterator []) (on_items f))

-- an exception of `__next__`: that which tells the end, and any other
abbrev pub ends_drain : List Value → Raised → ExcKind → RuleTree
ends_drain items r exception.StopIteration = Return (Drained items)
ends_drain items r _ = Return (Raises r)

-- the going over from an answer of `__next__` on: what is gone over is judged with each item, before the next is asked
abbrev pub drain_rule : Container → Value → List Value → Completion → RuleTree
drain_rule container iterator items (Gives v) = within_limit (asks_next container iterator (items ++ v ∷ [])) (passes container (items ++ v ∷ []))
drain_rule container iterator items (Raises r) = ends_drain items r r.kind
drain_rule container iterator items a = Return a

-- ---- draining

abbrev pub not_iterable : RuleTree
not_iterable = type_error (codes "not iterable")

-- By the kind of a reference: what is gone over goes on as `over` says. What is no reference has no items.
abbrev pub drains_kind : RuleTree → Option Kind → RuleTree
drains_kind over (Some kind.List) = over
drains_kind over (Some kind.Dict) = over
drains_kind over (Some kind.Range) = over
drains_kind over (Some kind.View) = over
drains_kind over (Some kind.Instance) = Stop beyond.Drain
drains_kind over (Some kind.Iter) = Stop beyond.Drain
drains_kind over (Some kind.Namespace) = Stop beyond.Namespace
drains_kind over _ = not_iterable

-- on with all items of a value that go into a container: at once for a text, a byte string and a tuple
abbrev pub drains_into : Container → Value → (List Value → RuleTree) → RuleTree
drains_into container v f = elim (items_at_hand v) [ Some items ↦ f items | None ↦ on_kind v (drains_kind (goes_over container v f)) ]

abbrev pub drains : Value → (List Value → RuleTree) → RuleTree
drains v f = drains_into AList v f

-- ---- unpacking

-- as many items as targets
abbrev pub counted : ℕ → (List Value → RuleTree) → List Value → RuleTree
counted n f items = elim (length items == n) [ true ↦ f items | false ↦ fails exception.ValueError (codes "wrong number of values") ]

abbrev pub unpacks_kind : RuleTree → Option Kind → RuleTree
unpacks_kind over (Some kind.List) = over
unpacks_kind over (Some _) = Stop beyond.Drain
unpacks_kind over None = not_iterable

-- on with the items of a value, which is drained and then counted: a text, a byte string, a tuple or a list
abbrev pub unpacks : Value → ℕ → (List Value → RuleTree) → RuleTree
unpacks v n f = elim (items_at_hand v) [ Some items ↦ counted n f items | None ↦ on_kind v (unpacks_kind (goes_over AList v (counted n f))) ]
