use Rattle.std.proofs.Common.{List, ℕ, Vec, Global, ap, sym, ◌≡◌, ◌∙◌}
use Rattle.std.proofs.lemmas.List.{take_rest}
use Rattle.report_text.specs.Stepping.{shown}
use Rattle.report_text.proofs.Places.{told_fault}
use Rattle.report_text.proofs.streams.next_body.Goals as goal

pub returns-in-Err : goal.returns-in-Err
returns-in-Err c =
    let waits = take_rest c.args.bytes.now c.args.start ∙ sym c.requires.waits in
    let is : c.frame_end.result ≡ shown c.args.start c.in-Err.fault c.args.deframer.now = c.frame_end.ensures ∙ ap (λ (s : List ℕ). shown c.args.start c.in-Err.fault s) waits in
    rw is (told_fault {X = Vec ℕ Global} (λ body. body.items) c.args.start c.args.deframer.now c.in-Err.fault c.next.new.self c.in-Err.ensures)
