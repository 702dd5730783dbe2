use Rattle.std.proofs.Common.{◌≡◌, drop}
use Rattle.py_grammar.specs.Reading.{in_reach}
use Rattle.py_grammar.specs.Writing.{deeper}
use Rattle.py_parser.specs.Rows.{symbols_of}
use Rattle.py_parser.proofs.reading.in_reach.Given as goal

abbrev pub invariant-loop-part : goal.invariant-loop-part
invariant-loop-part l = in_reach l.limits (deeper l.level (symbols_of l.parts)) ≡ in_reach l.limits (deeper l.level (symbols_of (drop l.part-index l.parts)))
