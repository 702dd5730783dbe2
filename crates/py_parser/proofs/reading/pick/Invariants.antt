use Rattle.std.proofs.Common.{◌≡◌, drop, map}
use Rattle.py_grammar.specs.Reading.{pick}
use Rattle.py_parser.specs.Rows.{way_of}
use Rattle.py_parser.proofs.reading.pick.Given as goal

abbrev pub invariant-loop-row : goal.invariant-loop-row
invariant-loop-row l = pick (map way_of l.rows) l.terminal ≡ pick (map way_of (drop l.row-index l.rows)) l.terminal
