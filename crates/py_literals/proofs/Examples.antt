-- Worked literals, computed by the checker. Values are those of CPython.
use Rattle.std.proofs.Common.{◌≡◌, [], ◌∷◌, ◌++◌, pos, Some, None, refl}
use Rattle.std.specs.Prelude.{codes}
use Rattle.py_literals.specs.IntValues.{int_literal_value}
use Rattle.py_literals.specs.Values.{text_literal_value, bytes_literal_value}
use Rattle.py_literals.specs.Computing.{literals_compute}

pub zero_is : int_literal_value (codes "0") ≡ Some (pos 0)
unfolding literals_compute
zero_is = refl

pub decimal : int_literal_value (codes "1203") ≡ Some (pos 1203)
unfolding literals_compute
decimal = refl

pub hex_both_cases : int_literal_value (codes "0xfF0") ≡ Some (pos 4080)
unfolding literals_compute
hex_both_cases = refl

pub greatest : int_literal_value (codes "0x7fffffffffffffffffffffffffffffff") ≡ Some (pos 170141183460469231731687303715884105727)
unfolding literals_compute
greatest = refl

pub past_greatest : int_literal_value (codes "170141183460469231731687303715884105728") ≡ None
unfolding literals_compute
past_greatest = refl

pub zero_in_front : int_literal_value (codes "01") ≡ None
unfolding literals_compute
zero_in_front = refl

-- no character
pub empty : text_literal_value (39 ∷ 39 ∷ []) ≡ Some []
unfolding literals_compute
empty = refl

-- the other quote stands for itself
pub other_quote : text_literal_value (34 ∷ codes "it" ++ 39 ∷ codes "s" ++ 34 ∷ []) ≡ Some (codes "it" ++ 39 ∷ codes "s")
unfolding literals_compute
other_quote = refl

-- \n \t \r \\ \' \"
pub signs : text_literal_value (39 ∷ 92 ∷ 110 ∷ 92 ∷ 116 ∷ 92 ∷ 114 ∷ 92 ∷ 92 ∷ 92 ∷ 39 ∷ 92 ∷ 34 ∷ 39 ∷ []) ≡ Some (10 ∷ 9 ∷ 13 ∷ 92 ∷ 39 ∷ 34 ∷ [])
unfolding literals_compute
signs = refl

-- \x41 is A, and \xe9 is U+00E9
pub two_digits : text_literal_value (39 ∷ 92 ∷ codes "x41" ++ 92 ∷ codes "xe9" ++ 39 ∷ []) ≡ Some (65 ∷ 0xC3 ∷ 0xA9 ∷ [])
unfolding literals_compute
two_digits = refl

-- \u00e9, and \u20AC, the euro sign
pub four_digits : text_literal_value (39 ∷ 92 ∷ codes "u00e9" ++ 92 ∷ codes "u20AC" ++ 39 ∷ []) ≡ Some (0xC3 ∷ 0xA9 ∷ 0xE2 ∷ 0x82 ∷ 0xAC ∷ [])
unfolding literals_compute
four_digits = refl

-- a character of its own
pub own_character : text_literal_value (39 ∷ 0xC3 ∷ 0xA9 ∷ 39 ∷ []) ≡ Some (0xC3 ∷ 0xA9 ∷ [])
unfolding literals_compute
own_character = refl

-- half of a pair
pub surrogate : text_literal_value (39 ∷ 92 ∷ codes "ud800" ++ 39 ∷ []) ≡ None
unfolding literals_compute
surrogate = refl

pub one_digit : text_literal_value (39 ∷ 92 ∷ codes "x4" ++ 39 ∷ []) ≡ None
unfolding literals_compute
one_digit = refl

pub more_behind : text_literal_value (39 ∷ codes "a" ++ 39 ∷ codes "b") ≡ None
unfolding literals_compute
more_behind = refl

-- b'\xff\x00A'
pub high_byte : bytes_literal_value (98 ∷ 39 ∷ 92 ∷ codes "xff" ++ 92 ∷ codes "x00A" ++ 39 ∷ []) ≡ Some (255 ∷ 0 ∷ 65 ∷ [])
unfolding literals_compute
high_byte = refl

pub no_code_in_bytes : bytes_literal_value (98 ∷ 39 ∷ 92 ∷ codes "u0041" ++ 39 ∷ []) ≡ None
unfolding literals_compute
no_code_in_bytes = refl

pub no_b : bytes_literal_value (39 ∷ 39 ∷ []) ≡ None
unfolding literals_compute
no_b = refl
