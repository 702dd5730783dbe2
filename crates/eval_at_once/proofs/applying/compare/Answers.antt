use Rattle.language_rules.specs.Chains.{link_rule}
use Rattle.eval_at_once.proofs.applying.compare.Goals as goal

pub returns : goal.returns
returns c = c.told.ensures (link_rule c.args.comparison c.args.a.value c.args.b.value) c.link.ensures.computes
