use Rattle.std.proofs.Common.{refl}
use Rattle.message_core.proofs.ReadingLaws.{one_message}
use Rattle.message_core.proofs.laws.messages_are_read_back.Goals as goal

pub returns-clause-read : goal.returns-clause-read
returns-clause-read c = λ m small. (refl, small)

pub returns-clause-equal : goal.returns-clause-equal
returns-clause-equal c = one_message
