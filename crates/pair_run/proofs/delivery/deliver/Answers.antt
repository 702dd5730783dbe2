use Rattle.std.proofs.Common.{◌∙◌, ◌++◌, ap}
use Rattle.pair_run.proofs.delivery.deliver.Goals as goal

pub next_message-requires : goal.next_message-requires
next_message-requires g c =
    (c.args.message.now, c.requires.sendable, c.in_ok-carry.ensures.given.1 ∙ ap (λ old. old ++ c.deref.result.now) c.requires.idle.1 ∙ c.deref.ensures.value ∙ c.in_ok-bytes.ensures)
