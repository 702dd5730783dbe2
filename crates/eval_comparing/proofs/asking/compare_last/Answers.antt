use Rattle.std.proofs.Common.{ap, sym}
use Rattle.rp_base.specs.declared.operators.CmpOp.{CmpOp}
use Rattle.rp_base.specs.declared.operators.CmpOp.TheVariants as cmp
use Rattle.language_rules.specs.Comparing.{last_step}
use Rattle.language_rules.specs.Going.{carry}
use Rattle.eval_comparing.proofs.Moving.{each_as}
use Rattle.eval_comparing.proofs.asking.compare_last.Goals as goal

pub returns-in-Lt-clause-means : goal.returns-in-Lt-clause-means
returns-in-Lt-clause-means c =
    each_as c.fail.result (carry (last_step cmp.Lt c.args.left.now c.args.right.now)) (carry (last_step c.args.op c.args.left.now c.args.right.now))
    (ap (λ (o : CmpOp). carry (last_step o c.args.left.now c.args.right.now)) (sym c.in-Lt.is)) c.fail.ensures.means

pub returns-in-Le-clause-means : goal.returns-in-Le-clause-means
returns-in-Le-clause-means c =
    each_as c.fail-in-Le.result (carry (last_step cmp.Le c.args.left.now c.args.right.now)) (carry (last_step c.args.op c.args.left.now c.args.right.now))
    (ap (λ (o : CmpOp). carry (last_step o c.args.left.now c.args.right.now)) (sym c.in-Le.is)) c.fail-in-Le.ensures.means

pub returns-in-Gt-clause-means : goal.returns-in-Gt-clause-means
returns-in-Gt-clause-means c =
    each_as c.fail-in-Gt.result (carry (last_step cmp.Gt c.args.left.now c.args.right.now)) (carry (last_step c.args.op c.args.left.now c.args.right.now))
    (ap (λ (o : CmpOp). carry (last_step o c.args.left.now c.args.right.now)) (sym c.in-Gt.is)) c.fail-in-Gt.ensures.means

pub returns-in-Ge-clause-means : goal.returns-in-Ge-clause-means
returns-in-Ge-clause-means c =
    each_as c.fail-in-Ge.result (carry (last_step cmp.Ge c.args.left.now c.args.right.now)) (carry (last_step c.args.op c.args.left.now c.args.right.now))
    (ap (λ (o : CmpOp). carry (last_step o c.args.left.now c.args.right.now)) (sym c.in-Ge.is)) c.fail-in-Ge.ensures.means
