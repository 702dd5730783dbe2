use Rattle.pair_run.proofs.messages.own_root.Goals as goal

pub returns : goal.returns
returns c = rw (← c.in_ok-identity.ensures) c.boxed.ensures
