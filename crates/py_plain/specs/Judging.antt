-- What is judged before a result is made.
use Rattle.std.specs.Prelude.{ℕ, nat_lt, ℤ, Result, Ok, Err, if◌then◌else◌}
use Rattle.std.specs.Bool.{⊤}
use Rattle.rp_base.specs.declared.exceptions.Beyond.TheVariants as beyond
use Rattle.rp_base.specs.Values.{heaviest_value}
use Rattle.py_plain.specs.Arithmetic.{is_count, count_of}
use Rattle.py_plain.specs.declared.ends.PlainEnd.{PlainEnd}
use Rattle.py_plain.specs.declared.ends.PlainEnd.TheVariants as end

-- a value of this weight is not too heavy
abbrev pub judged : ℕ → Result ⊤ PlainEnd
judged weight = if nat_lt heaviest_value weight then Err (end.Beyond beyond.Size) else Ok tt

-- the copies that an int of 64 bits asks for
abbrev pub count : ℤ → Result ℕ PlainEnd
count n = if is_count n then Ok (count_of n) else Err (end.Beyond beyond.Int)
