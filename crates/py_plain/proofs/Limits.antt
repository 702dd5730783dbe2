-- What an operator gives is within the limits, where its operands are.
use Rattle.std.proofs.Common.{◌≡◌, ℕ, zero, suc, ◌+◌, ◌≤◌, max, fold, ℤ, Bool, true, false, nat_lt, List, [], ◌∷◌, ◌++◌, map, Result, Ok, Err, refl, sym, ◌∙◌, ap, subst, arith, if◌then◌else◌}
use Rattle.std.proofs.lemmas.Bool.{ltb-false}
use Rattle.std.proofs.lemmas.List.{map-append}
use Rattle.std.proofs.lemmas.List.Sums.{fold-append}
use Rattle.std.specs.Bool.{⊤}
use Rattle.std.specs.List.{repeat}
use Rattle.rp_base.specs.declared.exceptions.Beyond.TheVariants as beyond
use Rattle.rp_base.specs.declared.operators.BinaryOp.{BinaryOp}
use Rattle.rp_base.specs.declared.operators.BinaryOp.TheVariants as op
use Rattle.rp_base.specs.declared.plain.Plain.{Plain, out-Plain, roll-Plain}
use Rattle.rp_base.specs.declared.plain.Plain.TheOpen.{Plain-F}
use Rattle.rp_base.specs.declared.plain.Plain.TheVariants as plain
use Rattle.rp_base.specs.declared.plain.Plain.TheViews.{roll-out-Plain}
use Rattle.rp_base.specs.declared.plain.Plain.TheFolds.{map-Plain}
use Rattle.rp_base.specs.PlainValues.{as_int, plain_weight, plain_depth, depth_step}
use Rattle.rp_base.specs.PlainLaws.{gather_roll, look_roll, depth_tuple}
use Rattle.rp_base.specs.Values.{heaviest_value}
use Rattle.py_ints.specs.declared.arithmetic.IntEnd.{IntEnd}
use Rattle.py_ints.specs.Arithmetic.{int_result}
use Rattle.py_plain.specs.Answers.{int_answer}
use Rattle.py_plain.specs.Arithmetic.{bools, limited, sum_of, is_count, count_of, counted, copies_of, product_of, format_of, others, binary_at, binary}
use Rattle.py_plain.specs.declared.ends.PlainEnd.{PlainEnd}
use Rattle.py_plain.specs.declared.ends.PlainEnd.TheVariants as end

-- a value that is not too heavy, and at most so deep
abbrev pub Within : ℕ → Result Plain PlainEnd → Type 0
Within d (Ok v) = (plain_weight v ≤ heaviest_value) × (plain_depth v ≤ d)
Within d (Err e) = ⊤

-- ---- ints and bools

ints_within : (d : ℕ) (r : Result ℤ IntEnd) → Within d (int_answer r)
unfolding plain_weight plain_depth
ints_within d (Ok n) = (omega arith, omega arith)
ints_within d (Err e) = tt

bool_within : (d : ℕ) (b : Bool) → Within d (Ok (plain.Bool b))
unfolding plain_weight plain_depth
bool_within d b = (omega arith, omega arith)

bools_within : (d : ℕ) (o : BinaryOp) (x y : Bool) → Within d (bools o x y)
bools_within d op.And x y = bool_within d _
bools_within d op.Or x y = bool_within d _
bools_within d op.Xor x y = bool_within d _
bools_within d o x y = ints_within d (int_result o (as_int x) (as_int y))

-- ---- what is judged

limited_within : (d : ℕ) (p : Plain) → plain_depth p ≤ d → Within d (limited p)
limited_within d p h = split (nat_lt heaviest_value (plain_weight p)) refl
  where
    split : (b : Bool) → nat_lt heaviest_value (plain_weight p) ≡ b → Within d (if b then Err (end.Beyond beyond.Size) else Ok p)
    split true e = tt
    split false e = (ltb-false heaviest_value (plain_weight p) e, h)

counted_within : (d : ℕ) (n : ℤ) (p : Plain) → plain_depth p ≤ d → Within d (counted n p)
counted_within d n p h = split (is_count n)
  where
    split : (b : Bool) → Within d (if b then limited p else Err (end.Beyond beyond.Int))
    split true = limited_within d p h
    split false = tt

text_flat : (d : ℕ) (t : List ℕ) → plain_depth (plain.Text t) ≤ d
unfolding plain_depth
text_flat d t = omega arith

bytes_flat : (d : ℕ) (t : List ℕ) → plain_depth (plain.Bytes t) ≤ d
unfolding plain_depth
bytes_flat d t = omega arith

-- ---- tuples

abbrev deepest : List Plain → ℕ
deepest xs = fold max 0 (map plain_depth xs)

from_start : (a : ℕ) (ds : List ℕ) → fold max a ds ≡ max a (fold max 0 ds)
from_start a [] = omega arith
from_start a (d ∷ ds) =
    let p : fold max (max a d) ds ≡ max (max a d) (fold max 0 ds) = from_start (max a d) ds in
    let q : fold max (max 0 d) ds ≡ max (max 0 d) (fold max 0 ds) = from_start (max 0 d) ds in
    omega (arith, p, q)

deepest_parts : (xs ys : List Plain) → deepest (xs ++ ys) ≡ max (deepest xs) (deepest ys)
deepest_parts xs ys = ap (fold max 0) (map-append plain_depth xs ys) ∙ fold-append max 0 (map plain_depth xs) (map plain_depth ys) ∙ from_start (deepest xs) (map plain_depth ys)

deepest_copies : (n : ℕ) (xs : List Plain) → deepest (repeat n xs) ≤ deepest xs
deepest_copies zero xs = omega arith
deepest_copies (suc n) xs = let p = deepest_parts xs (repeat n xs) in let q = deepest_copies n xs in omega (arith, p, q)

-- the depth of a value, at one level
abbrev layer_depth : Plain-F Plain → ℕ
layer_depth l = depth_step (map-Plain Plain ℕ plain_depth l)

sum_within : (a b : Plain-F Plain) → Within (max (layer_depth a) (layer_depth b)) (sum_of a b)
sum_within (Plain-F.Text s) (Plain-F.Text t) = limited_within 0 (plain.Text (s ++ t)) (text_flat 0 (s ++ t))
sum_within (Plain-F.Bytes s) (Plain-F.Bytes t) = limited_within 0 (plain.Bytes (s ++ t)) (bytes_flat 0 (s ++ t))
sum_within (Plain-F.Tuple xs) (Plain-F.Tuple ys) =
    let p = depth_tuple (xs ++ ys) in
    let q = deepest_parts xs ys in
    limited_within (max (1 + deepest xs) (1 + deepest ys)) (plain.Tuple (xs ++ ys)) (omega (arith, p, q))
sum_within _ _ = tt

copies_within : (d : ℕ) (n : ℤ) (a : Plain-F Plain) → layer_depth a ≤ d → Within d (copies_of n a)
copies_within d n (Plain-F.Text t) h = counted_within d n (plain.Text (repeat (count_of n) t)) (text_flat d (repeat (count_of n) t))
copies_within d n (Plain-F.Bytes t) h = counted_within d n (plain.Bytes (repeat (count_of n) t)) (bytes_flat d (repeat (count_of n) t))
copies_within d n (Plain-F.Tuple xs) h =
    let p = depth_tuple (repeat (count_of n) xs) in
    let q = deepest_copies (count_of n) xs in
    counted_within d n (plain.Tuple (repeat (count_of n) xs)) (omega (arith, p, q, h))
copies_within d n _ h = tt

product_within : (a b : Plain-F Plain) → Within (max (layer_depth a) (layer_depth b)) (product_of a b)
product_within (Plain-F.Bool x) b = copies_within (max 0 (layer_depth b)) (as_int x) b (omega arith)
product_within (Plain-F.Int n) b = copies_within (max 0 (layer_depth b)) n b (omega arith)
product_within a (Plain-F.Bool y) = copies_within (max (layer_depth a) 0) (as_int y) a (omega arith)
product_within a (Plain-F.Int n) = copies_within (max (layer_depth a) 0) n a (omega arith)
product_within _ _ = tt

format_within : (d : ℕ) (a : Plain-F Plain) → Within d (format_of a)
format_within d (Plain-F.Text t) = tt
format_within d (Plain-F.Bytes t) = tt
format_within d _ = tt

others_within : (o : BinaryOp) (a b : Plain-F Plain) → Within (max (layer_depth a) (layer_depth b)) (others o a b)
others_within op.Add a b = sum_within a b
others_within op.Mul a b = product_within a b
others_within op.Mod a b = format_within _ a
others_within _ a b = tt

at_within : (o : BinaryOp) (a b : Plain-F Plain) → Within (max (layer_depth a) (layer_depth b)) (binary_at o a b)
at_within o (Plain-F.Bool x) (Plain-F.Bool y) = bools_within _ o x y
at_within o (Plain-F.Bool x) (Plain-F.Int n) = ints_within _ (int_result o (as_int x) n)
at_within o (Plain-F.Int m) (Plain-F.Bool y) = ints_within _ (int_result o m (as_int y))
at_within o (Plain-F.Int m) (Plain-F.Int n) = ints_within _ (int_result o m n)
at_within o a b = others_within o a b

depth_roll : (x : Plain-F Plain) → plain_depth (roll-Plain x) ≡ layer_depth x
unfolding plain_depth
depth_roll x = gather_roll ℕ depth_step x

pub binary_within : (o : BinaryOp) (a b : Plain) → Within (max (plain_depth a) (plain_depth b)) (binary o a b)
binary_within o a b =
    let P : Plain → Plain → Type 0 = λ p q. Within (max (plain_depth p) (plain_depth q)) (binary o p q) in
    let x = out-Plain a in
    let z = out-Plain b in
    let at_layers : P (roll-Plain x) (roll-Plain z) =
    subst (λ (d : ℕ). Within d (binary o (roll-Plain x) (roll-Plain z))) (sym (λ i. max (depth_roll x i) (depth_roll z i)))
    (subst (λ (r : Result Plain PlainEnd). Within (max (layer_depth x) (layer_depth z)) r) (sym (λ i. binary_at o (look_roll x i) (look_roll z i))) (at_within o x z)) in
    subst (λ (q : Plain). P a q) (roll-out-Plain b) (subst (λ (p : Plain). P p (roll-Plain z)) (roll-out-Plain a) at_layers)

-- the two facts
pub light : (o : BinaryOp) (a b v : Plain) → binary o a b ≡ Ok v → plain_weight v ≤ heaviest_value
light o a b v e = (subst (λ (r : Result Plain PlainEnd). Within (max (plain_depth a) (plain_depth b)) r) e (binary_within o a b)).0

pub no_deeper : (o : BinaryOp) (a b v : Plain) → binary o a b ≡ Ok v → plain_depth v ≤ max (plain_depth a) (plain_depth b)
no_deeper o a b v e = (subst (λ (r : Result Plain PlainEnd). Within (max (plain_depth a) (plain_depth b)) r) e (binary_within o a b)).1
