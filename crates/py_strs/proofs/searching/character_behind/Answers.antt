use Rattle.std.proofs.Common.{◌≡◌, ◌∙◌, ap, sym, subst, arith, ℕ, ℤ, List, length, pos, ◌≤ℤ◌, ◌≤◌, unsigned_abs}
use Rattle.std.specs.Int.{FitsUnsigned}
use Rattle.std.specs.List.{slice_get}
use Rattle.std.specs.Str.{chars, IsUtf8}
use Rattle.std.specs.Str.Iter.{chars_rest}
use Rattle.py_strs.proofs.Positions.{nth, few, past_end, chosen, ordered, picked, read_back}
use Rattle.py_strs.proofs.searching.character_behind.Goals as goal
use mir.Syntax.{w64, w128}
use mir.Val.{to_z, of_z}

pub returns-then-place-len : goal.returns-then-place-len
returns-then-place-len c =
    past_end (chars c.args.s.now) c.args.place c.len.result (subst (λ (n : ℕ). length (chars c.args.s.now) ≤ n) (sym c.len.ensures) (few c.args.s.now c.utf8.s))
    (ordered c.args.place c.len.result (omega (arith, c.len.type_inv)) c.ranges.place c.if-place-len.true)

pub returns : goal.returns
returns c =
    let same : to_z w128 (of_z w128 c.args.place) ≡ c.args.place = read_back c.args.place c.ranges.place in
    let wide : ℤ = to_z w128 (of_z w128 c.args.place) in
    let taken = picked c.try_from.result (FitsUnsigned w64 wide) (unsigned_abs wide) c.in_ok-ok.field-0 c.try_from.ensures c.in_ok-ok.ensures.value in
    let low : pos 0 ≤ℤ c.args.place = subst (λ (z : ℤ). pos 0 ≤ℤ z) same taken.0.0 in
    let text : IsUtf8 (chars_rest c.chars.result) = subst IsUtf8 (sym c.chars.ensures.rest) c.utf8.s in
    nth c.chars.result c.nth.new.self c.in_ok-ok.field-0 c.nth.result text c.nth.ensures.ran
    ∙ ap (λ (l : List ℕ). slice_get (chars l) c.in_ok-ok.field-0) c.chars.ensures.rest
    ∙ chosen (chars c.args.s.now) c.args.place c.in_ok-ok.field-0 low (taken.1 ∙ ap unsigned_abs same)
