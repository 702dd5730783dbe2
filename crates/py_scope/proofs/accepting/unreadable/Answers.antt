use Rattle.std.proofs.Common.{◌≡◌, ◌≤◌, ◌<◌, ◌-◌, sym, subst, List, ℕ, length, get_or}
use Rattle.py_scope.proofs.AcceptLaws.{boundary_at, short_text}
use Rattle.py_scope.proofs.accepting.unreadable.Goals as goal

pub range-lines-requires-clause-end_boundary : goal.range-lines-requires-clause-end_boundary
range-lines-requires-clause-end_boundary c =
    let size = c.behind_line_end-size.result in
    boundary_at c.args.valid.now size c.utf8.valid
    (subst (λ (t : List ℕ). size ≤ length t) c.as_bytes.ensures.value c.behind_line_end-size.ensures.within)
    (subst (λ (t : List ℕ). 0 < size → get_or t (size - 1) 0 ≡ 10) c.as_bytes.ensures.value c.behind_line_end-size.ensures.line_end)

pub line_ends-requires : goal.line_ends-requires
line_ends-requires c =
    subst (λ (t : List ℕ). length t ≤ 1048576) (sym c.as_bytes-in-Ok.ensures.value) (short_text c.range-lines.result.now c.in-Ok.field-0.items c.in-Ok.ensures.read)
