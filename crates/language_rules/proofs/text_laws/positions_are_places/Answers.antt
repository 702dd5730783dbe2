use Rattle.language_rules.proofs.TextLaws.{positions}
use Rattle.language_rules.proofs.text_laws.positions_are_places.Goals as goal

pub returns : goal.returns
returns c = positions
