use Rattle.std.proofs.Common.{ap, Err}
use Rattle.brine_codec.specs.declared.ends.DecodeEnd.{DecodeEnd}
use Rattle.message_core.specs.Messages.{message_value}
use Rattle.pair_run.proofs.Delivering.{spelled_same}
use Rattle.pair_run.proofs.delivery.message_in.Goals as goal

pub message_of-requires : goal.message_of-requires
message_of-requires c =
    let m = c.requires.0 in
    (m, c.requires.1, spelled_same (message_value m) c.in-Ok.value c.args.body.now c.requires.1.spelled c.in-Ok.ensures.found.0 c.requires.2 c.in-Ok.ensures.found.2)

pub returns-in-Ok : goal.returns-in-Ok
returns-in-Ok c = λ m sendable is.
    c.message_of.ensures m sendable (spelled_same (message_value m) c.in-Ok.value c.args.body.now sendable.spelled c.in-Ok.ensures.found.0 is c.in-Ok.ensures.found.2)

pub unreachable-requires : goal.unreachable-requires
unreachable-requires c =
    c.in-Err-Fault.ensures.refused c.in-Err-Fault.field-0-0 (ap (λ (e : DecodeEnd). Err e) c.in-Err-Fault.field-0-is) (message_value c.requires.0) c.requires.1.spelled c.requires.1.shallow c.requires.2
