-- Plain values: recursion over them, their weight and depth, and the equality of Python's `==`.
use Rattle.std.specs.Prelude.{ℕ, ◌+◌, max, length, sum, fold, map, List, [], ◌∷◌, Bool, true, false, ◌&&◌, ℤ, pos, cond}
use Rattle.std.specs.Ordering.{int_eq}
use Rattle.std.specs.Str.{bytes_eq}
use Rattle.rp_base.specs.declared.plain.Plain.{Plain}
use Rattle.rp_base.specs.declared.plain.Plain.TheOpen.{Plain-F}
use Rattle.rp_base.specs.declared.plain.Plain.TheFolds.{family, steps}
use Rattle.rp_base.specs.declared.plain.Plain.TheBlock.{view-Plain, laid-Plain}

-- one level of a value, and recursion over it: the step gets what the recursion gives for each item of a tuple
abbrev pub look : Plain → Plain-F Plain
look = view-Plain

abbrev pub gather : (A : Type 0) → (Plain-F A → A) → Plain → A
gather A step = laid-Plain (family A) (steps A step)

-- an int weighs 2, a text or a byte string 1 plus its bytes, a tuple 1 plus its items, and each other value 1
abbrev pub weight_step : Plain-F ℕ → ℕ
weight_step (Plain-F.Int n) = 2
weight_step (Plain-F.Text t) = 1 + length t
weight_step (Plain-F.Bytes b) = 1 + length b
weight_step (Plain-F.Tuple ws) = 1 + sum ws
weight_step _ = 1

unfoldable pub plain_weight : Plain → ℕ
plain_weight = gather ℕ weight_step

-- a tuple is one deeper than its deepest item
abbrev pub depth_step : Plain-F ℕ → ℕ
depth_step (Plain-F.Tuple ds) = 1 + fold max 0 ds
depth_step _ = 0

unfoldable pub plain_depth : Plain → ℕ
plain_depth = gather ℕ depth_step

-- a bool as its int
abbrev pub as_int : Bool → ℤ
as_int b = cond b (pos 1) (pos 0)

-- the items of two tuples, pair by pair, where each item of the first is already a test
abbrev pub tests_all : List (Plain → Bool) → List Plain → Bool
tests_all [] [] = true
tests_all (t ∷ ts) (y ∷ ys) = t y && tests_all ts ys
tests_all _ _ = false

-- One level of a value against one level of another. A bool counts as its int, and values of two other kinds differ.
abbrev pub compare_layers : Plain-F (Plain → Bool) → Plain-F Plain → Bool
compare_layers Plain-F.None Plain-F.None = true
compare_layers (Plain-F.Bool x) (Plain-F.Bool y) = int_eq (as_int x) (as_int y)
compare_layers (Plain-F.Bool x) (Plain-F.Int y) = int_eq (as_int x) y
compare_layers (Plain-F.Int x) (Plain-F.Bool y) = int_eq x (as_int y)
compare_layers (Plain-F.Int x) (Plain-F.Int y) = int_eq x y
compare_layers (Plain-F.Text x) (Plain-F.Text y) = bytes_eq x y
compare_layers (Plain-F.Bytes x) (Plain-F.Bytes y) = bytes_eq x y
compare_layers Plain-F.NotImpl Plain-F.NotImpl = true
compare_layers Plain-F.Ellipsis Plain-F.Ellipsis = true
compare_layers (Plain-F.Tuple ts) (Plain-F.Tuple ys) = tests_all ts ys
compare_layers _ _ = false

abbrev pub equal_step : Plain-F (Plain → Bool) → Plain → Bool
equal_step l b = compare_layers l (look b)

-- Python's `==`
unfoldable pub equal_to : Plain → Plain → Bool
equal_to = gather (Plain → Bool) equal_step

-- the items of two tuples: as many, and equal pair by pair
abbrev pub equal_items : List Plain → List Plain → Bool
equal_items xs ys = tests_all (map equal_to xs) ys
