use Rattle.std.proofs.Common.{◌≡◌, ◌∙◌, ap}
use Rattle.message_core.specs.declared.message.Message.TheVariants as message
use Rattle.rp_base.specs.declared.handlers.Handler.TheVariants as handlers
use Rattle.pair_run.specs.declared.messages.Question.TheVariants as question
use Rattle.pair_run.specs.Messages.{asks, arguments, namespace}
use Rattle.pair_run.specs.Talk.{exchange, stream, CarriesFront}
use Rattle.pair_run.proofs.Delivering.{on_err}
use Rattle.pair_run.proofs.Traffic.{front_all}
use Rattle.pair_run.proofs.pair.ask_namespace.Goals as goal

pub returns-in_err-value-clause-part : goal.returns-in_err-value-clause-part
returns-in_err-value-clause-part g c =
    let asked : c.in_ok-request.request ≡ asks 1 question.GetNamespace = (c.in_ok-request.ensures ∙ ap (λ o. message.Request 1 handlers.GetAttr (arguments o namespace question.GetNamespace)) c.requires.object) in
    on_err c.from_residual-in_err-value.result (CarriesFront (stream (exchange c.args.b.now.bindings.items 1 question.GetNamespace)) (g.W.Wire.carried c.args.ab.now) (g.W.Wire.carried c.ask.new.ab) (g.W.Wire.carried c.args.ba.now) (g.W.Wire.carried c.ask.new.ba))
    (c.in_err-value.ensures.part question.GetNamespace asked)

pub object_of-requires : goal.object_of-requires
object_of-requires g c =
    let asked : c.in_ok-request.request ≡ asks 1 question.GetNamespace = (c.in_ok-request.ensures ∙ ap (λ o. message.Request 1 handlers.GetAttr (arguments o namespace question.GetNamespace)) c.requires.object) in
    (namespace, c.in_ok-value.ensures.answered question.GetNamespace asked)

pub returns-in_err-object_of-clause-part : goal.returns-in_err-object_of-clause-part
returns-in_err-object_of-clause-part g c =
    let asked : c.in_ok-request.request ≡ asks 1 question.GetNamespace = (c.in_ok-request.ensures ∙ ap (λ o. message.Request 1 handlers.GetAttr (arguments o namespace question.GetNamespace)) c.requires.object) in
    on_err c.from_residual-in_err-object_of.result (CarriesFront (stream (exchange c.args.b.now.bindings.items 1 question.GetNamespace)) (g.W.Wire.carried c.args.ab.now) (g.W.Wire.carried c.ask.new.ab) (g.W.Wire.carried c.args.ba.now) (g.W.Wire.carried c.ask.new.ba))
    (front_all (stream (exchange c.args.b.now.bindings.items 1 question.GetNamespace)) (g.W.Wire.carried c.args.ab.now) (g.W.Wire.carried c.ask.new.ab) (g.W.Wire.carried c.args.ba.now) (g.W.Wire.carried c.ask.new.ba) (c.in_ok-value.ensures.carried question.GetNamespace asked))

pub returns-clause-answered : goal.returns-clause-answered
returns-clause-answered g c =
    let asked : c.in_ok-request.request ≡ asks 1 question.GetNamespace = (c.in_ok-request.ensures ∙ ap (λ o. message.Request 1 handlers.GetAttr (arguments o namespace question.GetNamespace)) c.requires.object) in
    c.in_ok-object_of.ensures namespace (c.in_ok-value.ensures.answered question.GetNamespace asked)

pub returns-clause-carried : goal.returns-clause-carried
returns-clause-carried g c =
    let asked : c.in_ok-request.request ≡ asks 1 question.GetNamespace = (c.in_ok-request.ensures ∙ ap (λ o. message.Request 1 handlers.GetAttr (arguments o namespace question.GetNamespace)) c.requires.object) in
    c.in_ok-value.ensures.carried question.GetNamespace asked
