use Rattle.language_rules.proofs.RequestLaw.{requests_are_read}
use Rattle.language_rules.proofs.laws.requests_are_read.Goals as goal

pub returns : goal.returns
returns c = requests_are_read
