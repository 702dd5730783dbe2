use Rattle.language_rules.specs.Operators.{unary_rule}
use Rattle.eval_at_once.proofs.applying.operate_on.Goals as goal

pub returns : goal.returns
returns c = c.told.ensures (unary_rule c.args.op c.args.of.value) c.unary.ensures.computes
