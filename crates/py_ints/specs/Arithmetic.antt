-- Arithmetic of whole numbers as Python has it, on numbers of any size; and what of it an int of 128 bits can hold.
use Rattle.std.specs.Prelude.{ℕ, zero, suc, ◌^◌, ℤ, pos, negsuc, neg_ℤ, ◌+ℤ◌, ◌-ℤ◌, ◌*ℤ◌, ◌≤ℤ◌, ◌<ℤ◌, Result, Ok, Err, if◌then◌else◌, unsigned_abs}
use Rattle.std.specs.Int.{w128, int_div_euclid, int_rem_euclid, int_pow, int_bit_and, int_bit_or, int_bit_xor}
use Rattle.rp_base.specs.declared.operators.BinaryOp.{BinaryOp}
use Rattle.rp_base.specs.declared.operators.BinaryOp.TheVariants as op
use Rattle.rp_base.specs.declared.operators.UnaryOp.{UnaryOp}
use Rattle.rp_base.specs.declared.operators.UnaryOp.TheVariants as unary
use Rattle.py_ints.specs.IntTexts.{fits}
use Rattle.py_ints.specs.declared.arithmetic.IntEnd.{IntEnd}
use Rattle.py_ints.specs.declared.arithmetic.IntEnd.TheVariants as end

-- the number where it has 128 bits
abbrev pub exact : ℤ → Result ℤ IntEnd
exact z = if fits z then Ok z else Err end.BeyondInt

-- the quotient rounded down: to divide by -d is to divide the opposite by d
abbrev pub floor_div : ℤ → ℤ → ℤ
floor_div a (pos d) = int_div_euclid a (pos d)
floor_div a (negsuc d) = int_div_euclid (neg_ℤ a) (pos (suc d))

-- what that quotient leaves, which has the divisor's sign
abbrev pub floor_mod : ℤ → ℤ → ℤ
floor_mod a (pos d) = int_rem_euclid a (pos d)
floor_mod a (negsuc d) = neg_ℤ (int_rem_euclid (neg_ℤ a) (pos (suc d)))

-- r is from 0 to the divisor, which is left out
abbrev pub IsRemainderOf : ℤ → ℤ → Type 0
IsRemainderOf (pos d) r = (pos 0 ≤ℤ r) × (r <ℤ pos d)
IsRemainderOf (negsuc d) r = (negsuc d <ℤ r) × (r ≤ℤ pos 0)

-- a / b would be a float
abbrev pub true_quotient : ℤ → ℤ → Result ℤ IntEnd
true_quotient a (pos zero) = Err end.DivZero
true_quotient a b = Err end.BeyondFloat

abbrev pub quotient : ℤ → ℤ → Result ℤ IntEnd
quotient a (pos zero) = Err end.DivZero
quotient a b = exact (floor_div a b)

abbrev pub remainder : ℤ → ℤ → Result ℤ IntEnd
remainder a (pos zero) = Err end.DivZero
remainder a b = Ok (floor_mod a b)

-- a power below 0 would be a float, or divides by 0
abbrev pub power : ℤ → ℤ → Result ℤ IntEnd
power a (pos e) = exact (int_pow a e)
power (pos zero) (negsuc e) = Err end.DivZero
power a (negsuc e) = Err end.BeyondFloat

-- a shift to the left is a product with a power of 2
abbrev pub left_shift : ℤ → ℤ → Result ℤ IntEnd
left_shift a (pos k) = exact (a *ℤ pos (2 ^ k))
left_shift a (negsuc k) = Err end.NegShift

-- a shift to the right is a quotient by a power of 2
abbrev pub right_shift : ℤ → ℤ → Result ℤ IntEnd
right_shift a (pos k) = Ok (floor_div a (pos (2 ^ k)))
right_shift a (negsuc k) = Err end.NegShift

-- bit i of a whole number's two's complement, which goes on to the left for ever: 1 where the number shifted by i is odd
abbrev pub int_bit : ℤ → ℕ → ℕ
int_bit z i = unsigned_abs (floor_mod (floor_div z (pos (2 ^ i))) (pos 2))

abbrev pub int_result : BinaryOp → ℤ → ℤ → Result ℤ IntEnd
int_result op.Add a b = exact (a +ℤ b)
int_result op.Sub a b = exact (a -ℤ b)
int_result op.Mul a b = exact (a *ℤ b)
int_result op.FloorDiv a b = quotient a b
int_result op.Mod a b = remainder a b
int_result op.Pow a b = power a b
int_result op.Shl a b = left_shift a b
int_result op.Shr a b = right_shift a b
int_result op.And a b = Ok (int_bit_and w128 a b)
int_result op.Or a b = Ok (int_bit_or w128 a b)
int_result op.Xor a b = Ok (int_bit_xor w128 a b)
int_result op.Div a b = true_quotient a b

-- `~a` has each bit of a turned, so it is -a - 1
abbrev pub complement : ℤ → ℤ
complement a = neg_ℤ a -ℤ pos 1

abbrev pub unary_result : UnaryOp → ℤ → Result ℤ IntEnd
unary_result unary.Neg a = exact (neg_ℤ a)
unary_result unary.Pos a = Ok a
unary_result unary.Invert a = Ok (complement a)
