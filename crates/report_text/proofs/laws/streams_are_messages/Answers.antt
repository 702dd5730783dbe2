use Rattle.report_text.proofs.Whole.{made_of}
use Rattle.report_text.proofs.laws.streams_are_messages.Goals as goal

pub returns : goal.returns
returns c = made_of
