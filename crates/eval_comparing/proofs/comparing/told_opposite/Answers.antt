use Rattle.eval_comparing.proofs.LevelLaws.{unequal_asked}
use Rattle.eval_comparing.proofs.comparing.told_opposite.Goals as goal

pub returns-in-Asked-clause-unequal : goal.returns-in-Asked-clause-unequal
returns-in-Asked-clause-unequal c = λ t h. unequal_asked t c.args.answer c.in-Asked.question c.in-Asked.is h
