use Rattle.std.proofs.Common.{subst, sym, All, ◌≡◌, ◌++◌, ◌∷◌, [], ◌+◌, List, map, ap, arith, ℕ, ◌∙◌}
use Rattle.std.proofs.lemmas.List.Elements.{All-push}
use Rattle.pair_run.specs.Scripts.{lines_of, question_line, IsLetter}
use Rattle.pair_run.proofs.Lines.{lines_more, read_letter_gives, asks_nothing}
use Rattle.pair_run.proofs.scripts.questions.Goals as goal

pub lines-preserved : goal.lines-preserved
lines-preserved c =
    let h = c.lines.invariant in
    let read = read_letter_gives c.split_line.result.0.now c.in-Some.letter (sym c.in-Some.ensures) in
    let Kept : List ℕ → Type 0 = λ xs. (lines_of c.args.text.now ≡ map question_line xs ++ lines_of c.split_line.result.1.now) × All IsLetter xs in
    subst Kept (sym c.in_ok-push.ensures.items) (
      lines_more question_line (lines_of c.args.text.now) (lines_of c.lines.rest.now) (lines_of c.split_line.result.1.now) c.split_line.result.0.now c.lines.letters.items c.in-Some.letter h.0 c.split_line.ensures.lines read.1,
      All-push IsLetter c.lines.letters.items c.in-Some.letter h.1 read.0,
    )

pub returns-in_default-clause-refused : goal.returns-in_default-clause-refused
returns-in_default-clause-refused c = λ line e.
    let h = c.lines.invariant in
    let place : line ≡ c.len.result + 1 = cc in
    record {
      before = c.lines.letters.items;
      other = c.split_line.result.0.now;
      after = lines_of c.split_line.result.1.now;
      lines = h.0 ∙ ap (λ ms. map question_line c.lines.letters.items ++ ms) c.split_line.ensures.lines;
      lower_case = h.1;
      place = omega (arith, place, c.len.ensures, c.lines.letters.ok.0);
      refused = asks_nothing c.split_line.result.0.now c.in_default.ensures;
    }
