use Rattle.std.proofs.Common.{◌≡◌, ◌∙◌, ap, List, ℕ, refl, Option, Some, None}
use Rattle.rp_base.specs.declared.ends.Side.{Side}
use Rattle.message_core.specs.declared.message.Message.TheVariants as message
use Rattle.pair_run.specs.Talk.{answer, exchange, stream, Carries, CarriesFront}
use Rattle.pair_run.proofs.Asking.{asked_part, asked_whole, replied_part, replied_whole, in_exchange, reply_sendable}
use Rattle.pair_run.proofs.Delivering.{on_err}
use Rattle.pair_run.proofs.Sendable.{sendable_asked, reply_is_read}
use Rattle.pair_run.specs.Messages.{reply_value_of}
use Rattle.rp_base.specs.declared.plain.Plain.{Plain}
use Rattle.pair_run.proofs.pair.ask.Goals as goal

pub deliver-requires-clause-sendable : goal.deliver-requires-clause-sendable
deliver-requires-clause-sendable g c = sendable_asked c.args.b.now.bindings.items c.args.seq c.args.request.now c.requires.asked

pub deliver-requires-2-clause-sendable : goal.deliver-requires-2-clause-sendable
deliver-requires-2-clause-sendable g c =
    let asked = c.requires.asked in
    let said : c.in_ok-reply.reply ≡ message.Reply c.args.seq (answer c.deref.result.now asked.0) = c.in_ok-reply.ensures c.args.seq asked.0 (c.in_ok-heard.ensures.heard ∙ asked.1) in
    reply_sendable c.args.b.now.bindings.items c.args.seq c.args.request.now c.in_ok-reply.reply asked (said ∙ ap (λ bs. message.Reply c.args.seq (answer bs asked.0)) c.deref.ensures.value)

pub returns-in_err-heard-clause-part : goal.returns-in_err-heard-clause-part
returns-in_err-heard-clause-part g c = λ q is.
    let F : List (Side × ℕ) → Type 0 = λ s. CarriesFront s (g.W.Wire.carried c.args.ab.now) (g.W.Wire.carried c.deliver.new.wire) (g.W.Wire.carried c.args.ba.now) (g.W.Wire.carried c.args.ba.now) in
    on_err c.from_residual.result (F (stream (exchange c.args.b.now.bindings.items c.args.seq q)))
    (in_exchange F c.args.b.now.bindings.items c.args.seq q c.args.request.now (message.Reply c.args.seq (answer c.args.b.now.bindings.items q)) is refl
    (asked_part c.args.request.now (message.Reply c.args.seq (answer c.args.b.now.bindings.items q)) (g.W.Wire.carried c.args.ab.now) (g.W.Wire.carried c.deliver.new.wire) (g.W.Wire.carried c.args.ba.now) c.in_err-heard.ensures.part))

pub returns-in_err-reply-clause-part : goal.returns-in_err-reply-clause-part
returns-in_err-reply-clause-part g c = λ q is.
    let F : List (Side × ℕ) → Type 0 = λ s. CarriesFront s (g.W.Wire.carried c.args.ab.now) (g.W.Wire.carried c.deliver.new.wire) (g.W.Wire.carried c.args.ba.now) (g.W.Wire.carried c.args.ba.now) in
    on_err c.from_residual-in_err-reply.result (F (stream (exchange c.args.b.now.bindings.items c.args.seq q)))
    (in_exchange F c.args.b.now.bindings.items c.args.seq q c.args.request.now (message.Reply c.args.seq (answer c.args.b.now.bindings.items q)) is refl
    (asked_whole c.args.request.now (message.Reply c.args.seq (answer c.args.b.now.bindings.items q)) (g.W.Wire.carried c.args.ab.now) (g.W.Wire.carried c.deliver.new.wire) (g.W.Wire.carried c.args.ba.now) c.in_ok-heard.ensures.carried))

pub returns-in_err-heard-2-clause-part : goal.returns-in_err-heard-2-clause-part
returns-in_err-heard-2-clause-part g c = λ q is.
    let F : List (Side × ℕ) → Type 0 = λ s. CarriesFront s (g.W.Wire.carried c.args.ab.now) (g.W.Wire.carried c.deliver.new.wire) (g.W.Wire.carried c.args.ba.now) (g.W.Wire.carried c.deliver-2.new.wire) in
    let said : c.in_ok-reply.reply ≡ message.Reply c.args.seq (answer c.args.b.now.bindings.items q) = c.in_ok-reply.ensures c.args.seq q (c.in_ok-heard.ensures.heard ∙ is) ∙ ap (λ bs. message.Reply c.args.seq (answer bs q)) c.deref.ensures.value in
    on_err c.from_residual-in_err-heard-2.result (F (stream (exchange c.args.b.now.bindings.items c.args.seq q)))
    (in_exchange F c.args.b.now.bindings.items c.args.seq q c.args.request.now c.in_ok-reply.reply is said
    (replied_part c.args.request.now c.in_ok-reply.reply (g.W.Wire.carried c.args.ab.now) (g.W.Wire.carried c.deliver.new.wire) (g.W.Wire.carried c.args.ba.now) (g.W.Wire.carried c.deliver-2.new.wire) c.in_ok-heard.ensures.carried c.in_err-heard-2.ensures.part))

pub returns-clause-carried : goal.returns-clause-carried
returns-clause-carried g c = λ q is.
    let F : List (Side × ℕ) → Type 0 = λ s. Carries s (g.W.Wire.carried c.args.ab.now) (g.W.Wire.carried c.deliver.new.wire) (g.W.Wire.carried c.args.ba.now) (g.W.Wire.carried c.deliver-2.new.wire) in
    let said : c.in_ok-reply.reply ≡ message.Reply c.args.seq (answer c.args.b.now.bindings.items q) = c.in_ok-reply.ensures c.args.seq q (c.in_ok-heard.ensures.heard ∙ is) ∙ ap (λ bs. message.Reply c.args.seq (answer bs q)) c.deref.ensures.value in
    in_exchange F c.args.b.now.bindings.items c.args.seq q c.args.request.now c.in_ok-reply.reply is said
    (replied_whole c.args.request.now c.in_ok-reply.reply (g.W.Wire.carried c.args.ab.now) (g.W.Wire.carried c.deliver.new.wire) (g.W.Wire.carried c.args.ba.now) (g.W.Wire.carried c.deliver-2.new.wire) c.in_ok-heard.ensures.carried c.in_ok-heard-2.ensures.carried)

absent : (v : Plain) (o : Option Plain) → None ≡ o → o ≡ Some v → ⊥
absent v o e f = cc

same_value : (v w : Plain) → Some v ≡ Some w → v ≡ w
same_value v w e = cc

pub unreachable-requires : goal.unreachable-requires
unreachable-requires g c =
    let asked = c.requires.asked in
    let said : c.in_ok-reply.reply ≡ message.Reply c.args.seq (answer c.deref.result.now asked.0) = c.in_ok-reply.ensures c.args.seq asked.0 (c.in_ok-heard.ensures.heard ∙ asked.1) in
    absent (answer c.deref.result.now asked.0) (reply_value_of c.args.seq c.in_ok-heard-2.heard) c.in-None.ensures
    (ap (reply_value_of c.args.seq) (c.in_ok-heard-2.ensures.heard ∙ said) ∙ reply_is_read c.args.seq (answer c.deref.result.now asked.0))

pub returns-clause-answered : goal.returns-clause-answered
returns-clause-answered g c = λ q is.
    let said : c.in_ok-reply.reply ≡ message.Reply c.args.seq (answer c.args.b.now.bindings.items q) =
    c.in_ok-reply.ensures c.args.seq q (c.in_ok-heard.ensures.heard ∙ is) ∙ ap (λ bs. message.Reply c.args.seq (answer bs q)) c.deref.ensures.value in
    same_value c.in-Some.value (answer c.args.b.now.bindings.items q)
    (c.in-Some.ensures ∙ ap (reply_value_of c.args.seq) (c.in_ok-heard-2.ensures.heard ∙ said) ∙ reply_is_read c.args.seq (answer c.args.b.now.bindings.items q))
