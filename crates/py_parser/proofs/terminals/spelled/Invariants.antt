use Rattle.std.proofs.Common.{◌≡◌, drop}
use Rattle.py_parser.specs.Lexemes.{spelled}
use Rattle.py_parser.specs.Spellings.{spellings_of}
use Rattle.py_parser.proofs.terminals.spelled.Given as goal

abbrev pub invariant-loop-spelling : goal.invariant-loop-spelling
invariant-loop-spelling l = spelled (spellings_of l.spellings) l.other l.text ≡ spelled (spellings_of (drop l.spelling-index l.spellings)) l.other l.text
