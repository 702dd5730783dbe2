use Rattle.std.proofs.Common.{◌≡◌, ◌≤◌, ◌+◌, ◌-◌, length, drop}
use Rattle.py_lexer.specs.Layout.{start, place_of, longest_text}
use Rattle.py_lexer.specs.Reading.{read_on}
use Rattle.py_lexer.proofs.OrderLaws.{Ordered}
use Rattle.py_lexer.proofs.lexing.tokens.Given as goal

abbrev pub invariant-pieces : goal.invariant-pieces
invariant-pieces l =
    (read_on start 0 l.bytes ≡ read_on (place_of l.reader) 0 (drop l.reader.at l.bytes)) × (l.reader.at ≤ length l.bytes)
    × (l.reader.at ≤ longest_text) × (l.reader.line ≤ l.reader.at + 1) × (l.reader.brackets ≤ l.reader.at) × Ordered (place_of l.reader)

abbrev pub decreases-pieces : goal.decreases-pieces
decreases-pieces l = length l.bytes - l.reader.at
