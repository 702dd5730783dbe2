use Rattle.std.proofs.Common.{sym, subst, ◌∙◌, ap}
use Rattle.rp_base.specs.declared.operators.CmpOp.{CmpOp}
use Rattle.rp_base.specs.declared.operators.CmpOp.TheVariants as cmp
use Rattle.language_rules.specs.Codes.{Step}
use Rattle.language_rules.specs.Comparing.{compare_step}
use Rattle.language_rules.specs.Going.{carry}
use Rattle.eval_comparing.specs.Compared.{Compares}
use Rattle.eval_comparing.proofs.PairLaws.{unequal_compared}
use Rattle.eval_comparing.proofs.comparing.compare_values.Goals as goal

pub returns-in_ok-equal_values-in-Eq : goal.returns-in_ok-equal_values-in-Eq
returns-in_ok-equal_values-in-Eq c = subst (λ (o : CmpOp). Compares (carry (compare_step o c.args.left.now c.args.right.now)) c.told.result) (sym c.in-Eq.is) (c.told.ensures (compare_step cmp.Eq c.args.left.now c.args.right.now) c.in_ok-equal_values-in-Eq.ensures)

pub returns-in_ok-equal_values-in-Ne : goal.returns-in_ok-equal_values-in-Ne
returns-in_ok-equal_values-in-Ne c =
    subst (λ (t : Step). Compares (carry t) c.told_opposite.result)
    (sym (ap (λ (o : CmpOp). compare_step o c.args.left.now c.args.right.now) c.in-Ne.is ∙ unequal_compared c.args.left.now c.args.right.now c.requires.apart c.requires.other))
    (c.told_opposite.ensures.unequal (compare_step cmp.Eq c.args.left.now c.args.right.now) c.in_ok-equal_values-in-Ne.ensures)
