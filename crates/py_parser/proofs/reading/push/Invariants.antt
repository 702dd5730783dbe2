use Rattle.std.proofs.Common.{◌≡◌, ◌++◌}
use Rattle.py_grammar.specs.Writing.{deeper}
use Rattle.py_parser.specs.Rows.{symbols_of}
use Rattle.py_parser.proofs.reading.push.Given as goal

abbrev pub invariant-loop-part : goal.invariant-loop-part
invariant-loop-part l = deeper l.level (symbols_of l.part-iterator.iter.rest.now) ++ l.stack ≡ deeper l.level (symbols_of l.parts) ++ l.initial.stack
