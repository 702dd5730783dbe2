use Rattle.report_text.proofs.Whole.{fault_found, message_found}
use Rattle.report_text.proofs.laws.frames_are_judged.Goals as goal

pub returns-clause-message : goal.returns-clause-message
returns-clause-message c = message_found

pub returns-clause-fault : goal.returns-clause-fault
returns-clause-fault c = fault_found
