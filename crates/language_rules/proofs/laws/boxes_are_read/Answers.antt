use Rattle.language_rules.proofs.BoxLaw.{boxes_are_read}
use Rattle.language_rules.proofs.laws.boxes_are_read.Goals as goal

pub returns : goal.returns
returns c = boxes_are_read
