use Rattle.language_rules.specs.Operators.{binary_rule}
use Rattle.eval_at_once.proofs.applying.operate.Goals as goal

pub returns : goal.returns
returns c = c.told.ensures (binary_rule c.args.op c.args.a.value c.args.b.value) c.binary.ensures.computes
