use Rattle.report_text.proofs.Whole.{lines_alone, no_fault}
use Rattle.report_text.proofs.laws.messages_are_printed.Goals as goal

pub returns-clause-fault : goal.returns-clause-fault
returns-clause-fault c = no_fault

pub returns-clause-text : goal.returns-clause-text
returns-clause-text c = lines_alone
