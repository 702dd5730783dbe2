use Rattle.language_rules.proofs.ExceptionLaw.{exceptions_are_read}
use Rattle.language_rules.proofs.laws.exceptions_are_read.Goals as goal

pub returns : goal.returns
returns c = exceptions_are_read
