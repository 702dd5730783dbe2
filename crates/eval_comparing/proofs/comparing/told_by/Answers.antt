use Rattle.std.proofs.Common.{Bool, sym, subst}
use Rattle.language_rules.specs.Going.{carry}
use Rattle.eval_comparing.specs.Compared.{Compares, turned_by}
use Rattle.eval_comparing.proofs.comparing.told_by.Goals as goal

pub returns-then-turned : goal.returns-then-turned
returns-then-turned c = λ t h. subst (λ (b : Bool). Compares (turned_by b (carry t)) c.told_opposite.result) (sym c.if-turned.true) (c.told_opposite.ensures.absent t h)

pub returns-else-turned : goal.returns-else-turned
returns-else-turned c = λ t h. subst (λ (b : Bool). Compares (turned_by b (carry t)) c.told.result) (sym c.if-turned.false) (c.told.ensures t h)
