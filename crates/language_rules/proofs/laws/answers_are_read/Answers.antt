use Rattle.language_rules.proofs.RequestLaw.{values_are_read, raised_is_read}
use Rattle.language_rules.proofs.laws.answers_are_read.Goals as goal

pub returns-clause-value : goal.returns-clause-value
returns-clause-value c = values_are_read

pub returns-clause-exception : goal.returns-clause-exception
returns-clause-exception c = raised_is_read
