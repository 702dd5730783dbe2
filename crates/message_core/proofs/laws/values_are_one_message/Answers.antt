use Rattle.message_core.proofs.ReadingLaws.{one_finding}
use Rattle.message_core.proofs.laws.values_are_one_message.Goals as goal

pub returns : goal.returns
returns c = one_finding
