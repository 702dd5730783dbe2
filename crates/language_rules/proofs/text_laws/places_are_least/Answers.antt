use Rattle.language_rules.proofs.TextLaws.{least}
use Rattle.language_rules.proofs.text_laws.places_are_least.Goals as goal

pub returns : goal.returns
returns c = least
