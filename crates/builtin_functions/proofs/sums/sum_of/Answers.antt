use Rattle.std.proofs.Common.{sym, ◌∙◌}
use Rattle.language_rules.specs.Codes.{AList}
use Rattle.language_rules.specs.Ordering.{gives_sum}
use Rattle.builtin_functions.proofs.NoItems.{no_items}
use Rattle.builtin_functions.proofs.sums.sum_of.Goals as goal

pub returns-in-Ok-None-clause-computes : goal.returns-in-Ok-None-clause-computes
returns-in-Ok-None-clause-computes c = no_items AList c.args.value.now gives_sum c.without_items.result (sym c.in-Ok-None.ensures ∙ c.in-Ok-None.field-0-is) c.without_items.ensures.computes
