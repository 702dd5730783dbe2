use Rattle.std.proofs.Common.{List, ℕ, subst}
use Rattle.eval_handlers.specs.Telling.{TextComes}
use Rattle.eval_handlers.proofs.ExceptionTexts.{repr_printed}
use Rattle.eval_handlers.proofs.telling.repr_of.Goals as goal

pub returns : goal.returns
returns c = subst (λ (t : List ℕ). TextComes t c.repr_by_count.result) (repr_printed c.args.raised.now.kind c.args.raised.now.args) c.repr_by_count.ensures
