use Rattle.std.proofs.Common.{◌≡◌, ◌-◌, ◌^◌, min, take, drop}
use Rattle.std.specs.Str.{all_ascii_digits}
use Rattle.py_ints.specs.IntTexts.{natural}
use Rattle.py_ints.proofs.reading.saturated.Given as goal

abbrev pub invariant-loop-digit : goal.invariant-loop-digit
invariant-loop-digit l = (all_ascii_digits l.digits ≡ all_ascii_digits (drop l.digit-index l.digits)) × (l.number ≡ min (natural (take l.digit-index l.digits)) (2 ^ 128 - 1))
