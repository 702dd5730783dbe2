use Rattle.value_operators.proofs.AnswerLemmas.{ended}
use Rattle.value_operators.proofs.ends.give.Goals as goal

pub returns-in-Err-clause-computes : goal.returns-in-Err-clause-computes
returns-in-Err-clause-computes c = λ wanted h. ended wanted c.args.answer c.in-Err.end c.end_of.result c.in-Err.is c.end_of.ensures h
