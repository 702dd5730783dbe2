use Rattle.std.specs.Int.{w128}
use Rattle.std.proofs.lemmas.Int.{to_z-of_z}
use Rattle.py_plain.specs.Judging.{count}
use Rattle.std.proofs.Common.{◌∙◌, rules, ◌≡◌, ap}
use Rattle.std.specs.List.{repeat}
use Rattle.rp_base.specs.declared.plain.Plain.TheVariants as plain
use Rattle.py_plain.proofs.Weights.{passes_counted, keeps_counted, text_copies_weigh, is_heavy}
use Rattle.py_plain.proofs.copies.repeat_text.Goals as goal

pub returns-in_err-judge_copies : goal.returns-in_err-judge_copies
returns-in_err-judge_copies c =
    passes_counted c.args.n c.in_ok-n.n (λ k. plain.Text (repeat k c.args.text.now)) _ c.in_err-judge_copies.field-0.0 c.from_residual-in_err-judge_copies.result (c.in_ok-n.ensures ∙ ap count (to_z-of_z w128 c.args.n c.ranges.n))
    (ap is_heavy (text_copies_weigh c.in_ok-n.n c.args.text.now)) (rw (← c.len.ensures) c.in_err-judge_copies.ensures) c.from_residual-in_err-judge_copies.ensures.1

pub returns : goal.returns
returns c =
    let made : c.from_string.result ≡ repeat c.in_ok-n.n c.args.text.now = search rules in
    keeps_counted c.args.n c.in_ok-n.n (λ k. plain.Text (repeat k c.args.text.now)) _ _ c.in_ok-judge_copies.field-0 (c.in_ok-n.ensures ∙ ap count (to_z-of_z w128 c.args.n c.ranges.n))
    (ap is_heavy (text_copies_weigh c.in_ok-n.n c.args.text.now)) (rw (← c.len.ensures) c.in_ok-judge_copies.ensures) (ap plain.Text made)
