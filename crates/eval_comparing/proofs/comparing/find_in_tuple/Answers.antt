use Rattle.std.proofs.Common.{List, Option, sym, subst, ◌∙◌}
use Rattle.rp_base.specs.declared.value.Value.{Value}
use Rattle.language_rules.specs.Draining.{not_iterable}
use Rattle.language_rules.specs.PlainItems.{tuple_contains}
use Rattle.eval_comparing.specs.Compared.{Compares, turned_by}
use Rattle.eval_comparing.proofs.comparing.find_in_tuple.Goals as goal

pub returns-in-None : goal.returns-in-None
returns-in-None c = subst (λ (o : Option (List Value)). Compares (turned_by c.args.turned (tuple_contains c.args.part.now o)) c.ended.result) (sym c.in-None.is ∙ c.in_ok-items.ensures) (c.ended.ensures not_iterable c.args.turned c.fails.ensures)
