use Rattle.language_rules.specs.Conversions.{chr_of}
use Rattle.builtin_functions.proofs.numbers.chr_of.Goals as goal

pub returns-clause-computes : goal.returns-clause-computes
returns-clause-computes c = c.at_hand.ensures.computes (chr_of c.args.value.now) c.chr_at_hand.ensures
