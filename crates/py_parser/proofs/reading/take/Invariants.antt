use Rattle.std.proofs.Common.{◌≡◌, ◌+◌, ◌*◌, length}
use Rattle.py_parser.specs.Stepping.{lexeme, steps}
use Rattle.py_parser.proofs.reading.take.Given as goal

abbrev pub invariant-opening : goal.invariant-opening
invariant-opening l = steps l.limits 64 l.initial.stack l.initial.building (lexeme l.terminal l.text l.line) ≡ steps l.limits l.bound l.stack l.building (lexeme l.terminal l.text l.line)

abbrev pub decreases-opening : goal.decreases-opening
decreases-opening l = 16 * l.bound + length l.stack
