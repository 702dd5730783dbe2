use Rattle.std.proofs.lemmas.Slice.Zip.{AllZip-map}
use Rattle.std.proofs.lemmas.List.{map-id}
use Rattle.std.specs.Int.{w128}
use Rattle.std.proofs.lemmas.Int.{to_z-of_z}
use Rattle.py_plain.specs.Judging.{count}
use Rattle.std.proofs.Common.{◌∙◌, ◌≡◌, ap, ℕ}
use Rattle.std.specs.List.{repeat}
use Rattle.rp_base.specs.declared.plain.Plain.TheVariants as plain
use Rattle.py_plain.proofs.Weights.{passes_counted, keeps_counted, bytes_copies_weigh, is_heavy}
use Rattle.py_plain.proofs.copies.repeat_bytes.Goals as goal

pub returns-in_err-judge_copies : goal.returns-in_err-judge_copies
returns-in_err-judge_copies c =
    passes_counted c.args.n c.in_ok-n.n (λ k. plain.Bytes (repeat k c.args.bytes.now)) _ c.in_err-judge_copies.field-0.0 c.from_residual-in_err-judge_copies.result (c.in_ok-n.ensures ∙ ap count (to_z-of_z w128 c.args.n c.ranges.n))
    (ap is_heavy (bytes_copies_weigh c.in_ok-n.n c.args.bytes.now)) (rw (← c.len.ensures) c.in_err-judge_copies.ensures) c.from_residual-in_err-judge_copies.ensures.1

pub returns : goal.returns
returns c =
    let made : c.from_vec.result ≡ repeat c.in_ok-n.n c.args.bytes.now =
    c.from_vec.ensures ∙ AllZip-map (λ (b : ℕ). b) (repeat c.in_ok-n.n c.as_slice.result.now) c.in_ok-repeat.field-0.items c.in_ok-repeat.ensures.items ∙ map-id (repeat c.in_ok-n.n c.as_slice.result.now) ∙ ap (repeat c.in_ok-n.n) c.as_slice.ensures in
    keeps_counted c.args.n c.in_ok-n.n (λ k. plain.Bytes (repeat k c.args.bytes.now)) _ _ c.in_ok-judge_copies.field-0 (c.in_ok-n.ensures ∙ ap count (to_z-of_z w128 c.args.n c.ranges.n))
    (ap is_heavy (bytes_copies_weigh c.in_ok-n.n c.args.bytes.now)) (rw (← c.len.ensures) c.in_ok-judge_copies.ensures) (ap plain.Bytes made)
