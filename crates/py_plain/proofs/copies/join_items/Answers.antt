use Rattle.std.proofs.Common.{rules, ◌≡◌, ◌++◌, ap, List}
use Rattle.rp_base.specs.declared.plain.Plain.{Plain}
use Rattle.rp_base.specs.declared.plain.Plain.TheVariants as plain
use Rattle.py_plain.proofs.Weights.{passes, keeps, tuples_weigh}
use Rattle.py_plain.proofs.copies.join_items.Goals as goal

pub returns-in_err-judge : goal.returns-in_err-judge
returns-in_err-judge c =
    passes _ _ c.in_err-judge.field-0.0 c.from_residual.result (tuples_weigh c.args.xs.now c.args.ys.now _ _ c.weight_of_items.ensures c.weight_of_items-2.ensures) c.in_err-judge.ensures c.from_residual.ensures.1

pub returns : goal.returns
returns c =
    let made : c.append-2.new.all ≡ c.args.xs.now ++ c.args.ys.now = search rules in
    keeps _ _ _ c.in_ok-judge.field-0 (tuples_weigh c.args.xs.now c.args.ys.now _ _ c.weight_of_items.ensures c.weight_of_items-2.ensures) c.in_ok-judge.ensures (ap (λ (items : List Plain). plain.Tuple items) made)
