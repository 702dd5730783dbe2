use Rattle.std.proofs.Common.{◌∙◌, sym}
use Rattle.message_core.proofs.ReadingLaws.{one_message}
use Rattle.pair_run.proofs.Delivering.{read_fault}
use Rattle.pair_run.proofs.delivery.message_of.Goals as goal

pub no_message-requires : goal.no_message-requires
no_message-requires c = read_fault c.requires.0 c.args.value.now c.in-Err.fault c.requires.1 c.requires.2 c.in-Err.ensures

pub returns-in-Ok : goal.returns-in-Ok
returns-in-Ok c = λ message sendable is. one_message c.in-Ok.message message c.in-Ok.ensures.1 sendable.numbered (sym c.in-Ok.ensures.0 ∙ is)
