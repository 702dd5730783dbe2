-- Truth, equality and order of plain values.
use Rattle.std.specs.Prelude.{ℕ, ◌==◌, Bool, true, false, not, pos, List, [], ◌∷◌, length, Option, Some, None, Result, Ok, Err, if◌then◌else◌}
use Rattle.std.specs.Cmp.Lexicographic.{slice_cmp}
use Rattle.std.proofs.Common.{Ordering, Less, Equal, Greater}
use Rattle.std.specs.Ordering.{nat_cmp, int_cmp, int_eq, is_eq, is_ne, is_lt, is_le, is_gt, is_ge}
use Rattle.rp_base.specs.declared.operators.CmpOp.{CmpOp}
use Rattle.rp_base.specs.declared.operators.CmpOp.TheVariants as cmp
use Rattle.rp_base.specs.declared.exceptions.Beyond.TheVariants as beyond
use Rattle.rp_base.specs.declared.plain.Plain.{Plain}
use Rattle.rp_base.specs.declared.plain.Plain.TheOpen.{Plain-F}
use Rattle.rp_base.specs.PlainValues.{look, gather, as_int, equal_to}
use Rattle.py_plain.specs.Answers.{no_order}
use Rattle.py_plain.specs.declared.ends.PlainEnd.{PlainEnd}
use Rattle.py_plain.specs.declared.ends.PlainEnd.TheVariants as end

-- None, False, 0 and what is empty are false, NotImplemented has no truth here, and all else is true
abbrev pub truth_at : Plain-F Plain → Result Bool PlainEnd
truth_at Plain-F.None = Ok false
truth_at (Plain-F.Bool b) = Ok b
truth_at (Plain-F.Int n) = Ok (not (int_eq n (pos 0)))
truth_at (Plain-F.Text t) = Ok (not (length t == 0))
truth_at (Plain-F.Bytes b) = Ok (not (length b == 0))
truth_at (Plain-F.Tuple xs) = Ok (not (length xs == 0))
truth_at Plain-F.NotImpl = Err (end.Beyond beyond.Truth)
truth_at Plain-F.Ellipsis = Ok true

abbrev pub truth : Plain → Result Bool PlainEnd
truth a = truth_at (look a)

-- texts and byte strings: the first difference decides, and where there is none the shorter one is less
abbrev pub bytes_order : List ℕ → List ℕ → Ordering
bytes_order = slice_cmp nat_cmp

-- Two tuples stand as their first unequal pair, or else as their lengths. For each item of the first, its order against any other value is given.
abbrev pub first_unequal : List (Plain → Plain → Option Ordering) → List Plain → List Plain → Option Ordering
first_unequal fs [] [] = Some Equal
first_unequal fs [] (y ∷ ys) = Some Less
first_unequal fs (x ∷ xs) [] = Some Greater
first_unequal [] (x ∷ xs) (y ∷ ys) = None
first_unequal (f ∷ fs) (x ∷ xs) (y ∷ ys) = if equal_to x y then first_unequal fs xs ys else f x y

-- two ints, two texts, two byte strings and two tuples have an order, and a bool counts as its int
abbrev pub order_at : Plain-F (Plain → Plain → Option Ordering) → Plain-F Plain → Plain-F Plain → Option Ordering
order_at _ (Plain-F.Bool x) (Plain-F.Bool y) = Some (int_cmp (as_int x) (as_int y))
order_at _ (Plain-F.Bool x) (Plain-F.Int n) = Some (int_cmp (as_int x) n)
order_at _ (Plain-F.Int m) (Plain-F.Bool y) = Some (int_cmp m (as_int y))
order_at _ (Plain-F.Int m) (Plain-F.Int n) = Some (int_cmp m n)
order_at _ (Plain-F.Text s) (Plain-F.Text t) = Some (bytes_order s t)
order_at _ (Plain-F.Bytes s) (Plain-F.Bytes t) = Some (bytes_order s t)
order_at (Plain-F.Tuple fs) (Plain-F.Tuple xs) (Plain-F.Tuple ys) = first_unequal fs xs ys
order_at _ _ _ = None

abbrev pub order_step : Plain-F (Plain → Plain → Option Ordering) → Plain → Plain → Option Ordering
order_step l a b = order_at l (look a) (look b)

-- how two values stand; none where they have no order
unfoldable pub order_of : Plain → Plain → Option Ordering
order_of a b = gather (Plain → Plain → Option Ordering) order_step a a b

-- the items of two tuples
abbrev pub items_order : List Plain → List Plain → Option Ordering
items_order [] [] = Some Equal
items_order [] (y ∷ ys) = Some Less
items_order (x ∷ xs) [] = Some Greater
items_order (x ∷ xs) (y ∷ ys) = if equal_to x y then items_order xs ys else order_of x y

-- the comparisons that an order decides
abbrev pub holds : CmpOp → Ordering → Bool
holds cmp.Eq o = is_eq o
holds cmp.Ne o = is_ne o
holds cmp.Lt o = is_lt o
holds cmp.Le o = is_le o
holds cmp.Gt o = is_gt o
holds cmp.Ge o = is_ge o

abbrev pub ordered : CmpOp → Option Ordering → Result Bool PlainEnd
ordered c None = Err no_order
ordered c (Some o) = Ok (holds c o)

-- `==` and `!=` always answer, the others where the values have an order
abbrev pub compared : CmpOp → Plain → Plain → Result Bool PlainEnd
compared cmp.Eq a b = Ok (equal_to a b)
compared cmp.Ne a b = Ok (not (equal_to a b))
compared c a b = ordered c (order_of a b)
