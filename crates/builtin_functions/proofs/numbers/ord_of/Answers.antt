use Rattle.language_rules.specs.Conversions.{ord_of}
use Rattle.builtin_functions.proofs.numbers.ord_of.Goals as goal

pub returns-clause-computes : goal.returns-clause-computes
returns-clause-computes c = c.at_hand.ensures.computes (ord_of c.args.value.now) c.ord_at_hand.ensures
