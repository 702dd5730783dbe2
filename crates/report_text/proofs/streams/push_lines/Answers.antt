use Rattle.std.proofs.Common.{length, ◌+◌, List, ℕ, Vec, Global, Ok, Err, ap, sym, subst, ◌≡◌, ◌∙◌, ◌++◌, string_bytes, arith}
use Rattle.std.proofs.lemmas.Result.{err_from_is_err_and}
use Rattle.channel_frames.proofs.Judging.{front-length}
use Rattle.report_text.specs.Dumping.{judge}
use Rattle.report_text.specs.Stepping.{Adds}
use Rattle.report_text.proofs.Steps.{Upto, begun, ended_at_end, ended_by_frame, ended_in_frame, frame_within, on_fine, one_more, took, took_none}
use Rattle.report_text.proofs.streams.push_lines.Goals as goal

pub frames-init : goal.frames-init
frames-init c =
    let fed = on_fine c.feed.result (c.feed.new.self ≡ c.new-deframer.result ++ c.args.bytes.now) (sym c.is_err.ensures.value ∙ c.if-is_err.false) c.feed.ensures.ok in
    begun c.args.bytes.now (string_bytes c.args.text.now) c.feed.new.self (fed ∙ ap (λ (s : List ℕ). s ++ c.args.bytes.now) c.new-deframer.ensures)

pub returns-in_err-body : goal.returns-in_err-body
returns-in_err-body c =
    let p = err_from_is_err_and c.from_residual.result c.from_residual.ensures.1 in
    rw (p.1, p.2)
    (ended_by_frame {X = Vec ℕ Global} (λ body. body.items) c.args.bytes.now (string_bytes c.args.text.now) (string_bytes c.frames.text) c.frames.start c.frames.deframer c.next_body.new.deframer c.in_err-body.field-0.0 c.frames.invariant c.in_err-body.ensures)

pub push_frame-requires : goal.push_frame-requires
push_frame-requires c =
    let whole = took {X = Vec ℕ Global} (λ body. body.items) c.frames.start c.frames.deframer c.in_ok-body.field-0 c.in-Some.body c.next_body.new.deframer c.in-Some.is c.in_ok-body.ensures in
    let within = frame_within c.args.bytes.now (string_bytes c.args.text.now) (string_bytes c.frames.text) c.frames.start c.frames.deframer c.in-Some.body.items c.next_body.new.deframer c.frames.invariant whole in
    omega (arith, within, ap (λ (s : List ℕ). length s) c.as_slice-data.ensures.value)

pub returns-in_err-push_frame : goal.returns-in_err-push_frame
returns-in_err-push_frame c =
    let whole = took {X = Vec ℕ Global} (λ body. body.items) c.frames.start c.frames.deframer c.in_ok-body.field-0 c.in-Some.body c.next_body.new.deframer c.in-Some.is c.in_ok-body.ensures in
    let p = err_from_is_err_and c.from_residual-in_err-push_frame.result c.from_residual-in_err-push_frame.ensures.1 in
    let added = subst (λ (s : List ℕ). Adds (judge (c.frames.start, s)) (Err c.in_err-push_frame.field-0.0) (string_bytes c.frames.text) (string_bytes c.push_frame.new.text)) c.as_slice-data.ensures.value c.in_err-push_frame.ensures in
    rw (p.1, p.2)
    (ended_in_frame c.args.bytes.now (string_bytes c.args.text.now) (string_bytes c.frames.text) (string_bytes c.push_frame.new.text) c.frames.start c.frames.deframer c.in-Some.body.items c.next_body.new.deframer c.in_err-push_frame.field-0.0 c.frames.invariant whole added)

pub overflow_add-start-in-Some-2 : goal.overflow_add-start-in-Some-2
overflow_add-start-in-Some-2 c =
    let whole = took {X = Vec ℕ Global} (λ body. body.items) c.frames.start c.frames.deframer c.in_ok-body.field-0 c.in-Some.body c.next_body.new.deframer c.in-Some.is c.in_ok-body.ensures in
    let within = frame_within c.args.bytes.now (string_bytes c.args.text.now) (string_bytes c.frames.text) c.frames.start c.frames.deframer c.in-Some.body.items c.next_body.new.deframer c.frames.invariant whole in
    omega (arith, within, ap (λ (s : List ℕ). length s) c.as_slice-data.ensures.value)

pub frames-smaller : goal.frames-smaller
frames-smaller c =
    let whole = took {X = Vec ℕ Global} (λ body. body.items) c.frames.start c.frames.deframer c.in_ok-body.field-0 c.in-Some.body c.next_body.new.deframer c.in-Some.is c.in_ok-body.ensures in
    omega (arith, front-length c.frames.deframer c.in-Some.body.items c.next_body.new.deframer whole)

pub frames-preserved : goal.frames-preserved
frames-preserved c =
    let whole = took {X = Vec ℕ Global} (λ body. body.items) c.frames.start c.frames.deframer c.in_ok-body.field-0 c.in-Some.body c.next_body.new.deframer c.in-Some.is c.in_ok-body.ensures in
    let added = subst (λ (s : List ℕ). Adds (judge (c.frames.start, s)) (Ok c.in_ok-push_frame.field-0) (string_bytes c.frames.text) (string_bytes c.push_frame.new.text)) c.as_slice-data.ensures.value c.in_ok-push_frame.ensures in
    subst (λ (k : ℕ). Upto c.args.bytes.now (string_bytes c.args.text.now) (string_bytes c.push_frame.new.text) (c.frames.start + (5 + k + 1)) c.next_body.new.deframer) (ap (λ (s : List ℕ). length s) (sym c.as_slice-data.ensures.value))
    (one_more c.args.bytes.now (string_bytes c.args.text.now) (string_bytes c.frames.text) (string_bytes c.push_frame.new.text) c.frames.start c.frames.deframer c.in-Some.body.items c.next_body.new.deframer added.0 c.frames.invariant whole added.1 added.2)

pub returns : goal.returns
returns c =
    let ended = took_none {X = Vec ℕ Global} (λ body. body.items) c.frames.start c.frames.deframer c.in_ok-body.field-0 c.next_body.new.deframer c.in_default.not-Some c.in_ok-body.ensures in
    ended_at_end c.args.bytes.now (string_bytes c.args.text.now) (string_bytes c.frames.text) c.frames.start c.frames.deframer c.check_end.result c.frames.invariant ended c.check_end.ensures
