use Rattle.language_rules.specs.Conversions.{absolute}
use Rattle.builtin_functions.proofs.numbers.absolute.Goals as goal

pub returns-clause-computes : goal.returns-clause-computes
returns-clause-computes c = c.at_hand.ensures.computes (absolute c.args.value.now) c.absolute_at_hand.ensures
