use Rattle.language_rules.specs.Conversions.{int_of}
use Rattle.builtin_functions.proofs.numbers.int_of.Goals as goal

pub returns-clause-computes : goal.returns-clause-computes
returns-clause-computes c = c.at_hand.ensures.computes (int_of c.args.value.now) c.int_at_hand.ensures
