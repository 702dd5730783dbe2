use Rattle.std.proofs.Common.{◌≡◌, ◌≤◌, ◌+◌, drop}
use Rattle.py_parser.specs.Lexemes.{line_ends}
use Rattle.py_scope.proofs.accepting.line_ends.Given as goal

abbrev pub invariant-loop-byte : goal.invariant-loop-byte
invariant-loop-byte l = (l.count ≤ l.byte-index) × (line_ends l.text ≡ l.count + line_ends (drop l.byte-index l.text))
