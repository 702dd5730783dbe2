use Rattle.std.proofs.Common.{◌≡◌, ◌-◌, ◌^◌, min, take, drop}
use Rattle.py_lexer.specs.Spellings.{all_hex, hex_natural}
use Rattle.py_literals.proofs.int.hex_value.Given as goal

abbrev pub invariant-loop-digit : goal.invariant-loop-digit
invariant-loop-digit l = (all_hex l.digits ≡ all_hex (drop l.digit-index l.digits)) × (l.number ≡ min (hex_natural (take l.digit-index l.digits)) (2 ^ 128 - 1))
