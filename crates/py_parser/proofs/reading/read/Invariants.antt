use Rattle.std.proofs.Common.{◌≡◌, drop}
use Rattle.py_grammar.specs.Table.{opening}
use Rattle.py_parser.specs.Building.{begun}
use Rattle.py_parser.specs.Lexemes.{lexemes}
use Rattle.py_parser.specs.Stepping.{beyond, read_on}
use Rattle.py_parser.proofs.reading.read.Given as goal

abbrev pub invariant-loop-place : goal.invariant-loop-place
invariant-loop-place l = read_on l.limits (opening l.fn.start) begun (lexemes l.text l.tokens) ≡ beyond l.place (read_on l.limits l.stack l.building (lexemes l.text (drop l.place l.tokens)))
