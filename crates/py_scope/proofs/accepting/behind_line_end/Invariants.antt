use Rattle.std.proofs.Common.{◌≡◌, ◌≤◌, ◌<◌, ◌-◌, drop, get_or}
use Rattle.py_scope.specs.Accepting.{behind_line_end}
use Rattle.py_scope.proofs.accepting.behind_line_end.Given as goal

abbrev pub invariant-loop-place : goal.invariant-loop-place
invariant-loop-place l =
    (behind_line_end 0 0 l.text ≡ behind_line_end l.place l.last (drop l.place l.text)) × (l.last ≤ l.place) × (0 < l.last → get_or l.text (l.last - 1) 0 ≡ 10)
