use Rattle.language_rules.proofs.RunLemmas.{goes_on, leaves}
use Rattle.language_rules.proofs.running_laws.what_ends_at_once_goes_on.Goals as goal

pub returns-clause-goes_on : goal.returns-clause-goes_on
returns-clause-goes_on c = goes_on

pub returns-clause-leaves : goal.returns-clause-leaves
returns-clause-leaves c = leaves
