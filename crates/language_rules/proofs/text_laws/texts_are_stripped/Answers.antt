use Rattle.language_rules.proofs.TextLaws.{strips}
use Rattle.language_rules.proofs.text_laws.texts_are_stripped.Goals as goal

pub returns : goal.returns
returns c = strips
