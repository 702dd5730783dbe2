use Rattle.std.proofs.Common.{◌≡◌, drop, false}
use Rattle.py_grammar.specs.Reading.{begins}
use Rattle.py_parser.specs.Rows.{symbols_of}
use Rattle.py_parser.proofs.reading.begins.Given as goal

abbrev pub invariant-loop-part : goal.invariant-loop-part
invariant-loop-part l = begins false l.terminal (symbols_of l.parts) ≡ begins false l.terminal (symbols_of (drop l.part-index l.parts))
