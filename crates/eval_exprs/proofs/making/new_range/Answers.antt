use Rattle.std.proofs.Common.{ℤ, ap, codes, sym}
use Rattle.rp_base.specs.declared.exceptions.ExcKind.TheVariants as kind
use Rattle.py_ints.proofs.Fitting.{zero_is}
use Rattle.language_rules.specs.Conversions.{new_range}
use Rattle.language_rules.specs.Going.{fails}
use Rattle.eval_exprs.proofs.Moving.{each_as}
use Rattle.eval_exprs.proofs.making.new_range.Goals as goal

pub returns-then-step-eq0-clause-means : goal.returns-then-step-eq0-clause-means
returns-then-step-eq0-clause-means c =
    each_as c.fail.result (fails kind.ValueError (codes "step is zero")) (new_range c.args.start c.args.stop c.args.step)
    (ap (λ (z : ℤ). new_range c.args.start c.args.stop z) (sym (zero_is c.args.step c.ranges.step c.if-step-eq0.true))) c.fail.ensures.means
