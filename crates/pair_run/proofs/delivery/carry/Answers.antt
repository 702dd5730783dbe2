use Rattle.std.proofs.Common.{◌≡◌, ◌∙◌, ◌+◌, ◌++◌, ap, take, drop, ◌-◌, arith}
use Rattle.pair_run.specs.Talk.{CarriesPart}
use Rattle.pair_run.proofs.Delivering.{on_err, part_of_pieces, piece_more}
use Rattle.pair_run.proofs.delivery.carry.Goals as goal

pub returns-in_err-taken-clause-part : goal.returns-in_err-taken-clause-part
returns-in_err-taken-clause-part g c =
    on_err c.from_residual.result (CarriesPart c.args.bytes.now (g.W.Wire.carried c.args.wire.now) (g.W.Wire.carried c.put.new.self))
    (part_of_pieces c.args.bytes.now (g.W.Wire.carried c.args.wire.now) (g.W.Wire.carried c.put.new.self) c.pieces.done (c.in_err-taken.ensures.kept.0 ∙ c.pieces.invariant.2))

pub returns-in_err-drain-clause-part : goal.returns-in_err-drain-clause-part
returns-in_err-drain-clause-part g c =
    let put = piece_more c.args.bytes.now c.pieces.done c.min-most.result c.in_ok-taken.taken (g.W.Wire.carried c.args.wire.now) (g.W.Wire.carried c.pieces.wire) (g.W.Wire.carried c.put.new.self)
    c.pieces.invariant.0 c.in_ok-taken.ensures.taken.1 c.pieces.invariant.2 c.in_ok-taken.ensures.carried in
    on_err c.from_residual-in_err-drain.result (CarriesPart c.args.bytes.now (g.W.Wire.carried c.args.wire.now) (g.W.Wire.carried c.drain.new.wire))
    (part_of_pieces c.args.bytes.now (g.W.Wire.carried c.args.wire.now) (g.W.Wire.carried c.drain.new.wire) (c.pieces.done + c.in_ok-taken.taken) (c.in_err-drain.ensures.carried ∙ put.1))

pub pieces-preserved : goal.pieces-preserved
pieces-preserved g c =
    let put = piece_more c.args.bytes.now c.pieces.done c.min-most.result c.in_ok-taken.taken (g.W.Wire.carried c.args.wire.now) (g.W.Wire.carried c.pieces.wire) (g.W.Wire.carried c.put.new.self)
    c.pieces.invariant.0 c.in_ok-taken.ensures.taken.1 c.pieces.invariant.2 c.in_ok-taken.ensures.carried in
    let waits : c.pieces.inbox ++ g.W.Wire.queue c.put.new.self ≡ c.pieces.inbox ++ take c.in_ok-taken.taken (take (c.pieces.done + c.min-most.result - c.pieces.done) (drop c.pieces.done c.args.bytes.now)) =
    ap (λ ms. c.pieces.inbox ++ ms) (c.in_ok-taken.ensures.queued ∙ ap (λ ms. ms ++ take c.in_ok-taken.taken (take (c.pieces.done + c.min-most.result - c.pieces.done) (drop c.pieces.done c.args.bytes.now))) c.pieces.invariant.1) in
    let given = piece_more c.args.bytes.now c.pieces.done c.min-most.result c.in_ok-taken.taken c.args.inbox.now c.pieces.inbox c.drain.new.inbox
    c.pieces.invariant.0 c.in_ok-taken.ensures.taken.1 c.pieces.invariant.3 (c.in_ok-drain.ensures.given.1 ∙ waits) in (
      put.0,
      c.in_ok-drain.ensures.given.0,
      c.in_ok-drain.ensures.carried ∙ put.1,
      given.1,
      c.in_ok-drain.ensures.begun ∙ c.put.ensures.same_begun ∙ c.pieces.invariant.4,
      omega (arith, c.pieces.invariant.5, c.put.ensures.later, c.in_ok-drain.ensures.later),
    )
