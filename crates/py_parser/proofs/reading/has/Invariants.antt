use Rattle.std.proofs.Common.{◌≡◌, drop}
use Rattle.py_grammar.specs.Reading.{has}
use Rattle.py_parser.proofs.reading.has.Given as goal

abbrev pub invariant-loop-other : goal.invariant-loop-other
invariant-loop-other l = has l.terminal l.set ≡ has l.terminal (drop l.other-index l.set)
