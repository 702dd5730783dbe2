use Rattle.std.proofs.Common.{subst}
use Rattle.rp_base.specs.declared.value.Value.{Value}
use Rattle.language_rules.specs.Searching.{search_tuple_step}
use Rattle.eval_comparing.specs.Answers.{Answers}
use Rattle.eval_comparing.proofs.comparing.find_among.Goals as goal

pub returns : goal.returns
returns c = c.told_by.ensures (search_tuple_step c.args.items c.args.part.now) (subst (λ (v : Value). Answers (search_tuple_step c.args.items v) c.in_ok-answer.answer) c.in_ok-copy.ensures c.in_ok-answer.ensures)
