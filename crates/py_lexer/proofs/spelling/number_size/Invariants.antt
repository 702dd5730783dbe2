use Rattle.std.proofs.Common.{◌≡◌, ◌+◌, drop}
use Rattle.py_lexer.specs.Spellings.{front_size, is_number_byte}
use Rattle.py_lexer.proofs.spelling.number_size.Given as goal

abbrev pub invariant-loop-byte : goal.invariant-loop-byte
invariant-loop-byte l = (l.size ≡ l.byte-index) × (front_size is_number_byte l.rest ≡ l.byte-index + front_size is_number_byte (drop l.byte-index l.rest))
