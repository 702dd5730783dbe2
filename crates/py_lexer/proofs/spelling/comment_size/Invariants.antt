use Rattle.std.proofs.Common.{◌≡◌, ◌≤◌, ◌+◌, ◌-◌, length, drop}
use Rattle.py_lexer.specs.Spellings.{comment_size}
use Rattle.py_lexer.proofs.spelling.comment_size.Given as goal

abbrev pub invariant-bytes : goal.invariant-bytes
invariant-bytes l = (l.size ≤ length l.rest) × (comment_size l.rest ≡ l.size + comment_size (drop l.size l.rest))

abbrev pub decreases-bytes : goal.decreases-bytes
decreases-bytes l = length l.rest - l.size
