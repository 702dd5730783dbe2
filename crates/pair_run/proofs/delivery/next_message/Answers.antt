use Rattle.std.proofs.Common.{◌≡◌, ◌∙◌, [], ℕ, Vec, Global}
use Rattle.brine_codec.specs.Spelling.{spelling}
use Rattle.message_core.specs.Messages.{message_value}
use Rattle.pair_run.proofs.Delivering.{reads_some, reads_none, reads_fault, on_ok}
use Rattle.pair_run.proofs.delivery.next_message.Goals as goal

pub message_in-requires : goal.message_in-requires
message_in-requires c =
    let m = c.requires.0 in
    let read = reads_some (λ body. body.items) (spelling (message_value m)) c.args.inbox.now c.next.new.self c.in-Ok-Some.field-0 c.in-Ok-Some.body c.requires.1.short c.requires.2 c.in-Ok-Some.field-0-is c.in-Ok-Some.ensures in
    (m, c.requires.1, c.deref.ensures.value ∙ read.0)

pub returns-in-Ok-Some : goal.returns-in-Ok-Some
returns-in-Ok-Some c = λ m sendable is.
    let read = reads_some (λ body. body.items) (spelling (message_value m)) c.args.inbox.now c.next.new.self c.in-Ok-Some.field-0 c.in-Ok-Some.body sendable.short is c.in-Ok-Some.field-0-is c.in-Ok-Some.ensures in
    (c.message_in.ensures m sendable (c.deref.ensures.value ∙ read.0), on_ok c.message_in.result (c.next.new.self ≡ []) read.1)

pub unreachable-requires : goal.unreachable-requires
unreachable-requires c =
    reads_none (λ body. body.items) (spelling (message_value c.requires.0)) c.args.inbox.now c.next.new.self c.in-Ok-None.field-0 c.requires.1.short c.requires.2 c.in-Ok-None.field-0-is c.in-Ok-None.ensures

pub no_frame-requires : goal.no_frame-requires
no_frame-requires c =
    reads_fault (Vec ℕ Global) (λ body. body.items) (spelling (message_value c.requires.0)) c.args.inbox.now c.next.new.self c.in-Err.fault c.requires.1.short c.requires.2 c.in-Err.ensures
