use Rattle.std.proofs.Common.{◌≡◌}
use Rattle.pair_run.specs.declared.messages.Question.TheVariants as question
use Rattle.pair_run.specs.Messages.{asks, root}
use Rattle.pair_run.specs.Talk.{exchange, stream, CarriesFront}
use Rattle.pair_run.proofs.Delivering.{on_err}
use Rattle.pair_run.proofs.Traffic.{front_all}
use Rattle.pair_run.proofs.pair.ask_root.Goals as goal

pub returns-in_err-value-clause-part : goal.returns-in_err-value-clause-part
returns-in_err-value-clause-part g c =
    let asked : c.in_ok-request.request ≡ asks 0 question.GetRoot = c.in_ok-request.ensures in
    on_err c.from_residual-in_err-value.result (CarriesFront (stream (exchange c.args.b.now.bindings.items 0 question.GetRoot)) (g.W.Wire.carried c.args.ab.now) (g.W.Wire.carried c.ask.new.ab) (g.W.Wire.carried c.args.ba.now) (g.W.Wire.carried c.ask.new.ba))
    (c.in_err-value.ensures.part question.GetRoot asked)

pub object_of-requires : goal.object_of-requires
object_of-requires g c =
    let asked : c.in_ok-request.request ≡ asks 0 question.GetRoot = c.in_ok-request.ensures in
    (root, c.in_ok-value.ensures.answered question.GetRoot asked)

pub returns-in_err-object_of-clause-part : goal.returns-in_err-object_of-clause-part
returns-in_err-object_of-clause-part g c =
    let asked : c.in_ok-request.request ≡ asks 0 question.GetRoot = c.in_ok-request.ensures in
    on_err c.from_residual-in_err-object_of.result (CarriesFront (stream (exchange c.args.b.now.bindings.items 0 question.GetRoot)) (g.W.Wire.carried c.args.ab.now) (g.W.Wire.carried c.ask.new.ab) (g.W.Wire.carried c.args.ba.now) (g.W.Wire.carried c.ask.new.ba))
    (front_all (stream (exchange c.args.b.now.bindings.items 0 question.GetRoot)) (g.W.Wire.carried c.args.ab.now) (g.W.Wire.carried c.ask.new.ab) (g.W.Wire.carried c.args.ba.now) (g.W.Wire.carried c.ask.new.ba) (c.in_ok-value.ensures.carried question.GetRoot asked))

pub returns-clause-answered : goal.returns-clause-answered
returns-clause-answered g c =
    let asked : c.in_ok-request.request ≡ asks 0 question.GetRoot = c.in_ok-request.ensures in
    c.in_ok-object_of.ensures root (c.in_ok-value.ensures.answered question.GetRoot asked)

pub returns-clause-carried : goal.returns-clause-carried
returns-clause-carried g c =
    let asked : c.in_ok-request.request ≡ asks 0 question.GetRoot = c.in_ok-request.ensures in
    c.in_ok-value.ensures.carried question.GetRoot asked
