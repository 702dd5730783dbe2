use Rattle.std.proofs.Common.{◌∙◌, ap, sym, subst, ℕ, List, length, Some, None, Option, take, ◌-◌, ◌≡◌, arith}
use Rattle.std.specs.Str.{chars}
use Rattle.py_strs.specs.Searching.{IsLeastPlace}
use Rattle.py_strs.proofs.Places.{Found, found, nowhere, searched}
use Rattle.py_strs.proofs.searching.find_text.Goals as goal

abbrev at_least : (c : goal.In_ok-at) → Found c.args.s.now c.args.part.now c.in_ok-at.at
at_least c = found c.args.s.now c.args.part.now c.in_ok-at.at c.utf8.s c.utf8.part (searched c.args.s.now c.args.part.now c.as_bytes.result.now c.as_bytes-2.result.now c.find.result (Some c.in_ok-at.at) c.as_bytes.ensures.value c.as_bytes-2.ensures.value c.in_ok-at.was c.find.ensures)

pub range-requires-clause-end_boundary : goal.range-requires-clause-end_boundary
range-requires-clause-end_boundary c = (at_least c).cut

pub returns-in_err-at : goal.returns-in_err-at
returns-in_err-at c =
    let none = nowhere c.args.s.now c.args.part.now c.utf8.s c.utf8.part (searched c.args.s.now c.args.part.now c.as_bytes.result.now c.as_bytes-2.result.now c.find.result None c.as_bytes.ensures.value c.as_bytes-2.ensures.value c.in_err-at.was c.find.ensures) in
    let P : Option ℕ → Type 0 = λ r. IsLeastPlace (chars c.args.s.now) (chars c.args.part.now) r in
    subst P (sym c.from_residual.ensures) none

pub returns : goal.returns
returns c =
    let least = (found c.args.s.now c.args.part.now c.in_ok-at.at c.utf8.s c.utf8.part (searched c.args.s.now c.args.part.now c.as_bytes.result.now c.as_bytes-2.result.now c.find.result (Some c.in_ok-at.at) c.as_bytes.ensures.value c.as_bytes-2.ensures.value c.in_ok-at.was c.find.ensures)).least in
    let whole : c.in_ok-at.at - 0 ≡ c.in_ok-at.at = omega arith in
    let P : ℕ → Type 0 = λ n. IsLeastPlace (chars c.args.s.now) (chars c.args.part.now) (Some n) in
    subst P (sym (c.text_len.ensures ∙ ap (λ (l : List ℕ). length (chars l)) c.range.ensures.value ∙ ap (λ (n : ℕ). length (chars (take n c.args.s.now))) whole)) least
