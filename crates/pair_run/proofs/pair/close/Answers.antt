use Rattle.std.proofs.Common.{sym, subst, arith}
use Rattle.pair_run.specs.Talk.{IsSendable}
use Rattle.pair_run.proofs.Sendable.{sendable_close}
use Rattle.pair_run.proofs.pair.close.Goals as goal

pub deliver-requires-clause-sendable : goal.deliver-requires-clause-sendable
deliver-requires-clause-sendable g c = subst IsSendable (sym c.in_ok-request.ensures) (sendable_close c.args.seq (omega arith))
