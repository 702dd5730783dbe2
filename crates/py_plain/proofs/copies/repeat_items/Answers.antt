use Rattle.std.specs.Int.{w128}
use Rattle.std.proofs.lemmas.Int.{to_z-of_z}
use Rattle.py_plain.specs.Judging.{count}
use Rattle.std.proofs.Common.{◌∙◌, rules, ◌≡◌, ap, List}
use Rattle.std.specs.List.{repeat}
use Rattle.rp_base.specs.declared.plain.Plain.{Plain}
use Rattle.rp_base.specs.declared.plain.Plain.TheVariants as plain
use Rattle.py_plain.proofs.Weights.{passes_counted, keeps_counted, tuple_copies_weigh}
use Rattle.py_plain.proofs.copies.repeat_items.Goals as goal

pub returns-in_err-judge_copies : goal.returns-in_err-judge_copies
returns-in_err-judge_copies c =
    passes_counted c.args.n c.in_ok-n.n (λ k. plain.Tuple (repeat k c.args.items.now)) _ c.in_err-judge_copies.field-0.0 c.from_residual-in_err-judge_copies.result (c.in_ok-n.ensures ∙ ap count (to_z-of_z w128 c.args.n c.ranges.n))
    (tuple_copies_weigh c.in_ok-n.n c.args.items.now _ c.weight_of_items.ensures) (c.in_err-judge_copies.ensures) c.from_residual-in_err-judge_copies.ensures.1

pub returns : goal.returns
returns c =
    let made : c.in_ok-append_copies.field-0 ≡ repeat c.in_ok-n.n c.args.items.now = search rules in
    keeps_counted c.args.n c.in_ok-n.n (λ k. plain.Tuple (repeat k c.args.items.now)) _ _ c.in_ok-judge_copies.field-0 (c.in_ok-n.ensures ∙ ap count (to_z-of_z w128 c.args.n c.ranges.n))
    (tuple_copies_weigh c.in_ok-n.n c.args.items.now _ c.weight_of_items.ensures) (c.in_ok-judge_copies.ensures) (ap (λ (items : List Plain). plain.Tuple items) made)
