use Rattle.std.proofs.Common.{◌≡◌, ◌+◌, ◌≤◌, drop}
use Rattle.py_parser.specs.Lexemes.{line_ends}
use Rattle.py_parser.proofs.terminals.line_ends.Given as goal

abbrev pub invariant-loop-byte : goal.invariant-loop-byte
invariant-loop-byte l = (line_ends l.text ≡ l.line_ends + line_ends (drop l.byte-index l.text)) × (l.line_ends ≤ l.byte-index)
