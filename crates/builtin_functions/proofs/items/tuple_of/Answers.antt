use Rattle.std.proofs.Common.{sym, ◌∙◌}
use Rattle.rp_base.specs.Values.{tuple_of}
use Rattle.language_rules.specs.Answers.{tuple_answers}
use Rattle.language_rules.specs.Codes.{ATuple}
use Rattle.builtin_functions.proofs.NoItems.{no_items}
use Rattle.builtin_functions.proofs.items.tuple_of.Goals as goal

pub returns-in-Ok-None-clause-computes : goal.returns-in-Ok-None-clause-computes
returns-in-Ok-None-clause-computes c = no_items ATuple c.args.value.now (λ items. tuple_answers (tuple_of items)) c.without_items.result (sym c.in-Ok-None.ensures ∙ c.in-Ok-None.field-0-is) c.without_items.ensures.computes
