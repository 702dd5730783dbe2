-- Worked examples, computed by the checker.
use Rattle.std.proofs.Common.{◌≡◌, pos, negsuc, true, false, Some, None, Ok, Err, refl, arith}
use Rattle.std.proofs.lemmas.Int.{ints}
use Rattle.std.specs.Prelude.{codes}
use Rattle.py_ints.specs.Arithmetic.{floor_div, floor_mod, quotient, power, left_shift, right_shift, int_bit, complement}
use Rattle.py_ints.specs.declared.arithmetic.IntEnd.TheVariants as end
use Rattle.py_ints.specs.IntTexts.{int_value, fits, is_shortest}

pub zero_with_a_sign : int_value (codes "-0") ≡ Some (pos 0)
zero_with_a_sign = refl

pub zeros_in_front : int_value (codes "+00907") ≡ Some (pos 907)
zeros_in_front = refl

pub below_zero : int_value (codes "-48") ≡ Some (negsuc 47)
below_zero = refl

pub a_sign_alone : int_value (codes "-") ≡ None
a_sign_alone = refl

pub a_blank : int_value (codes " 1") ≡ None
a_blank = refl

pub least_fits : fits (negsuc 170141183460469231731687303715884105727) ≡ true
least_fits = refl

pub too_wide : fits (pos 170141183460469231731687303715884105728) ≡ false
too_wide = refl

pub zero_is_shortest : is_shortest (codes "0") ≡ true
zero_is_shortest = refl

pub a_sign_and_zero : is_shortest (codes "-0") ≡ false
a_sign_and_zero = refl

pub a_zero_in_front : is_shortest (codes "07") ≡ false
a_zero_in_front = refl

pub a_plus : is_shortest (codes "+7") ≡ false
a_plus = refl

-- the values of Python's `//` and `%`
pub divided_below : floor_div (negsuc 6) (pos 2) ≡ negsuc 3
divided_below = refl

pub divided_by_a_number_below : floor_div (pos 7) (negsuc 1) ≡ negsuc 3
divided_by_a_number_below = refl

pub remainder_above : floor_mod (negsuc 6) (pos 3) ≡ pos 2
remainder_above = refl

pub remainder_below : floor_mod (pos 7) (negsuc 1) ≡ negsuc 0
remainder_below = refl

pub least_by_minus_one : quotient (negsuc 170141183460469231731687303715884105727) (negsuc 0) ≡ Err end.BeyondInt
least_by_minus_one = refl

pub least_power : power (negsuc 1) (pos 127) ≡ Ok (negsuc 170141183460469231731687303715884105727)
least_power = refl

pub power_below : power (pos 0) (negsuc 0) ≡ Err end.DivZero
power_below = refl

pub shifted_too_far : left_shift (pos 1) (pos 127) ≡ Err end.BeyondInt
shifted_too_far = refl

pub shifted_down : right_shift (negsuc 4) (pos 1) ≡ Ok (negsuc 2)
shifted_down = refl

-- -2 is ..1110
pub lowest_bit : int_bit (negsuc 1) 0 ≡ 0
lowest_bit = refl

pub sign_bit : int_bit (negsuc 1) 1000 ≡ 1
sign_bit = refl

pub turned : complement (pos 5) ≡ negsuc 5
turned = omega (arith, ints)
