-- Python's operators on plain values.
use Rattle.std.specs.Prelude.{ℕ, ◌^◌, Bool, not, ◌&&◌, ◌||◌, nat_lt, ℤ, pos, negsuc, ◌++◌, Result, Ok, Err, if◌then◌else◌}
use Rattle.std.specs.List.{repeat}
use Rattle.rp_base.specs.declared.operators.BinaryOp.{BinaryOp}
use Rattle.rp_base.specs.declared.operators.BinaryOp.TheVariants as op
use Rattle.rp_base.specs.declared.operators.UnaryOp.{UnaryOp}
use Rattle.rp_base.specs.declared.exceptions.Beyond.TheVariants as beyond
use Rattle.rp_base.specs.declared.plain.Plain.{Plain}
use Rattle.rp_base.specs.declared.plain.Plain.TheOpen.{Plain-F}
use Rattle.rp_base.specs.declared.plain.Plain.TheVariants as plain
use Rattle.rp_base.specs.PlainValues.{look, as_int, plain_weight}
use Rattle.rp_base.specs.Values.{heaviest_value}
use Rattle.py_ints.specs.Arithmetic.{int_result, unary_result}
use Rattle.py_plain.specs.Answers.{unsupported, int_answer}
use Rattle.py_plain.specs.declared.ends.PlainEnd.{PlainEnd}
use Rattle.py_plain.specs.declared.ends.PlainEnd.TheVariants as end

-- `-`, `+` and `~` take ints, and a bool counts as one
abbrev pub unary_at : UnaryOp → Plain-F Plain → Result Plain PlainEnd
unary_at o (Plain-F.Bool b) = int_answer (unary_result o (as_int b))
unary_at o (Plain-F.Int n) = int_answer (unary_result o n)
unary_at o _ = Err unsupported

abbrev pub unary : UnaryOp → Plain → Result Plain PlainEnd
unary o a = unary_at o (look a)

-- two ints
abbrev pub ints : BinaryOp → ℤ → ℤ → Result Plain PlainEnd
ints o m n = int_answer (int_result o m n)

-- two bools: a bool for `&`, `|` and `^`, else as their ints
abbrev pub bools : BinaryOp → Bool → Bool → Result Plain PlainEnd
bools op.And x y = Ok (plain.Bool (x && y))
bools op.Or x y = Ok (plain.Bool (x || y))
bools op.Xor x y = Ok (plain.Bool (if x then not y else y))
bools o x y = ints o (as_int x) (as_int y)

-- the value, where it is not too heavy
abbrev pub limited : Plain → Result Plain PlainEnd
limited p = if nat_lt heaviest_value (plain_weight p) then Err (end.Beyond beyond.Size) else Ok p

-- two texts, two byte strings or two tuples, one behind the other
abbrev pub sum_of : Plain-F Plain → Plain-F Plain → Result Plain PlainEnd
sum_of (Plain-F.Text s) (Plain-F.Text t) = limited (plain.Text (s ++ t))
sum_of (Plain-F.Bytes s) (Plain-F.Bytes t) = limited (plain.Bytes (s ++ t))
sum_of (Plain-F.Tuple xs) (Plain-F.Tuple ys) = limited (plain.Tuple (xs ++ ys))
sum_of _ _ = Err unsupported

-- how many copies an int asks for: none where it is below 0
abbrev pub count_of : ℤ → ℕ
count_of (pos n) = n
count_of (negsuc n) = 0

-- a signed number of 64 bits
abbrev pub is_count : ℤ → Bool
is_count (pos n) = nat_lt n (2 ^ 63)
is_count (negsuc n) = nat_lt n (2 ^ 63)

abbrev pub counted : ℤ → Plain → Result Plain PlainEnd
counted n p = if is_count n then limited p else Err (end.Beyond beyond.Int)

-- copies of a text, a byte string or a tuple
abbrev pub copies_of : ℤ → Plain-F Plain → Result Plain PlainEnd
copies_of n (Plain-F.Text t) = counted n (plain.Text (repeat (count_of n) t))
copies_of n (Plain-F.Bytes b) = counted n (plain.Bytes (repeat (count_of n) b))
copies_of n (Plain-F.Tuple xs) = counted n (plain.Tuple (repeat (count_of n) xs))
copies_of n _ = Err unsupported

-- an int on either side
abbrev pub product_of : Plain-F Plain → Plain-F Plain → Result Plain PlainEnd
product_of (Plain-F.Bool x) b = copies_of (as_int x) b
product_of (Plain-F.Int n) b = copies_of n b
product_of a (Plain-F.Bool y) = copies_of (as_int y) a
product_of a (Plain-F.Int n) = copies_of n a
product_of _ _ = Err unsupported

-- `%` with a text or a byte string on the left would put values into it
abbrev pub format_of : Plain-F Plain → Result Plain PlainEnd
format_of (Plain-F.Text t) = Err (end.Beyond beyond.Operator)
format_of (Plain-F.Bytes b) = Err (end.Beyond beyond.Operator)
format_of _ = Err unsupported

-- operands that are not both ints or bools
abbrev pub others : BinaryOp → Plain-F Plain → Plain-F Plain → Result Plain PlainEnd
others op.Add a b = sum_of a b
others op.Mul a b = product_of a b
others op.Mod a b = format_of a
others _ a b = Err unsupported

abbrev pub binary_at : BinaryOp → Plain-F Plain → Plain-F Plain → Result Plain PlainEnd
binary_at o (Plain-F.Bool x) (Plain-F.Bool y) = bools o x y
binary_at o (Plain-F.Bool x) (Plain-F.Int n) = ints o (as_int x) n
binary_at o (Plain-F.Int m) (Plain-F.Bool y) = ints o m (as_int y)
binary_at o (Plain-F.Int m) (Plain-F.Int n) = ints o m n
binary_at o a b = others o a b

abbrev pub binary : BinaryOp → Plain → Plain → Result Plain PlainEnd
binary o a b = binary_at o (look a) (look b)
