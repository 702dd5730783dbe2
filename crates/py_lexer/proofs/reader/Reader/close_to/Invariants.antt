use Rattle.std.proofs.Common.{◌≡◌, length}
use Rattle.py_lexer.specs.Layout.{closed, place_of}
use Rattle.py_lexer.proofs.reader.Reader.close_to.Given as goal

abbrev pub invariant-suites : goal.invariant-suites
invariant-suites l = (closed l.width l.line (place_of l.initial.self) ≡ closed l.width l.line (place_of l.self)) × (l.self.brackets ≡ l.initial.self.brackets)

abbrev pub decreases-suites : goal.decreases-suites
decreases-suites l = length l.self.indents
