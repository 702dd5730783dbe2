use Rattle.std.proofs.Common.{Bool, ap, sym}
use Rattle.language_rules.specs.Operators.{left_out, unsupported}
use Rattle.eval_exprs.proofs.Moving.{each_as}
use Rattle.eval_exprs.proofs.operating.refuse_operator.Goals as goal

pub returns-else-defined-clause-means : goal.returns-else-defined-clause-means
returns-else-defined-clause-means c = each_as c.fail.result unsupported (left_out c.args.defined) (ap (λ (b : Bool). left_out b) (sym c.if-defined.false)) c.fail.ensures.means
