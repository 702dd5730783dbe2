use Rattle.std.proofs.Common.{arith, sym, subst, ◌<◌, ◌^◌, ◌≡◌, ◌∙◌, ◌++◌, ◌∷◌, [], ap, pos, ℤ, Option, Some, None, string_bytes}
use Rattle.std.specs.Fmt.{signed_decimal}
use Rattle.std.specs.Int.{w128}
use Rattle.std.proofs.lemmas.Int.{to_z-of_z}
use mir.Val.{to_z, of_z}
use Rattle.message_core.specs.declared.message.Message.TheVariants as message
use Rattle.rp_base.specs.declared.handlers.Handler.TheVariants as handlers
use Rattle.pair_run.specs.declared.messages.Question.TheVariants as question
use Rattle.pair_run.specs.Messages.{asks, arguments, root, number_in}
use Rattle.pair_run.specs.Scripts.{IsNumber}
use Rattle.pair_run.specs.Talk.{exchange, stream, CarriesFront, value_of}
use Rattle.pair_run.proofs.Delivering.{on_err}
use Rattle.pair_run.proofs.Sendable.{number_is_read}
use Rattle.pair_run.proofs.Traffic.{front_all}
use Rattle.pair_run.proofs.pair.print_item.Goals as goal

same_number : (m n : ℤ) → Some m ≡ Some n → m ≡ n
same_number m n e = cc

absent : (n : ℤ) (o : Option ℤ) → None ≡ o → o ≡ Some n → ⊥
absent n o e f = cc

as_it_is : (z : ℤ) → IsNumber z → to_z w128 (of_z w128 z) ≡ z
as_it_is z h =
    let F : ℤ → Type 0 = λ y. to_z w128 (of_z w128 y) ≡ y in
    let small : h.0 < 2 ^ 127 = h.2 in
    subst F (sym h.1) (to_z-of_z w128 (pos h.0) (record { sfits = omega arith }))

pub ask-requires-clause-asked : goal.ask-requires-clause-asked
ask-requires-clause-asked g c =
    let bindings = c.args.b.now.bindings.items in
    let asked : c.in_ok-request.request ≡ asks c.args.seq (question.GetItem c.args.letter) =
    c.in_ok-request.ensures ∙ ap (λ d. message.Request c.args.seq handlers.CallAttr (arguments root d (question.GetItem c.args.letter))) c.requires.dict in
    (question.GetItem c.args.letter, asked, c.requires.answered, omega arith)

pub returns-in_err-value-clause-part : goal.returns-in_err-value-clause-part
returns-in_err-value-clause-part g c =
    let bindings = c.args.b.now.bindings.items in
    let asked : c.in_ok-request.request ≡ asks c.args.seq (question.GetItem c.args.letter) =
    c.in_ok-request.ensures ∙ ap (λ d. message.Request c.args.seq handlers.CallAttr (arguments root d (question.GetItem c.args.letter))) c.requires.dict in
    on_err c.from_residual-in_err-value.result (CarriesFront (stream (exchange bindings c.args.seq (question.GetItem c.args.letter))) (g.W.Wire.carried c.args.ab.now) (g.W.Wire.carried c.ask.new.ab) (g.W.Wire.carried c.args.ba.now) (g.W.Wire.carried c.ask.new.ba))
    (c.in_err-value.ensures.part (question.GetItem c.args.letter) asked)

pub returns-in_err-print-in-Some-clause-part : goal.returns-in_err-print-in-Some-clause-part
returns-in_err-print-in-Some-clause-part g c =
    let bindings = c.args.b.now.bindings.items in
    let asked : c.in_ok-request.request ≡ asks c.args.seq (question.GetItem c.args.letter) =
    c.in_ok-request.ensures ∙ ap (λ d. message.Request c.args.seq handlers.CallAttr (arguments root d (question.GetItem c.args.letter))) c.requires.dict in
    on_err c.from_residual-in_err-print-in-Some.result (CarriesFront (stream (exchange bindings c.args.seq (question.GetItem c.args.letter))) (g.W.Wire.carried c.args.ab.now) (g.W.Wire.carried c.ask.new.ab) (g.W.Wire.carried c.args.ba.now) (g.W.Wire.carried c.ask.new.ba))
    (front_all (stream (exchange bindings c.args.seq (question.GetItem c.args.letter))) (g.W.Wire.carried c.args.ab.now) (g.W.Wire.carried c.ask.new.ab) (g.W.Wire.carried c.args.ba.now) (g.W.Wire.carried c.ask.new.ba) (c.in_ok-value.ensures.carried (question.GetItem c.args.letter) asked))

pub unreachable-requires : goal.unreachable-requires
unreachable-requires g c =
    let bindings = c.args.b.now.bindings.items in
    let asked : c.in_ok-request.request ≡ asks c.args.seq (question.GetItem c.args.letter) =
    c.in_ok-request.ensures ∙ ap (λ d. message.Request c.args.seq handlers.CallAttr (arguments root d (question.GetItem c.args.letter))) c.requires.dict in
    absent (value_of bindings c.args.letter) (number_in c.in_ok-value.value) c.in-None.ensures (ap number_in (c.in_ok-value.ensures.answered (question.GetItem c.args.letter) asked) ∙ number_is_read (value_of bindings c.args.letter))

pub returns-clause-printed : goal.returns-clause-printed
returns-clause-printed g c =
    let bindings = c.args.b.now.bindings.items in
    let asked : c.in_ok-request.request ≡ asks c.args.seq (question.GetItem c.args.letter) =
    c.in_ok-request.ensures ∙ ap (λ d. message.Request c.args.seq handlers.CallAttr (arguments root d (question.GetItem c.args.letter))) c.requires.dict in
    let read : c.in-Some.number ≡ value_of bindings c.args.letter =
    same_number c.in-Some.number (value_of bindings c.args.letter)
    (c.in-Some.ensures ∙ ap number_in (c.in_ok-value.ensures.answered (question.GetItem c.args.letter) asked) ∙ number_is_read (value_of bindings c.args.letter)) in
    c.in_ok-print-in-Some.ensures ∙ ap (λ o. string_bytes o ++ (signed_decimal (to_z w128 (of_z w128 c.in-Some.number)) ++ 10 ∷ [])) c.in_ok-value.ensures.kept.0
    ∙ ap (λ n. string_bytes c.args.a.now.output ++ (signed_decimal (to_z w128 (of_z w128 n)) ++ 10 ∷ [])) read
    ∙ ap (λ n. string_bytes c.args.a.now.output ++ (signed_decimal n ++ 10 ∷ [])) (as_it_is (value_of bindings c.args.letter) c.requires.answered.2)

pub returns-clause-carried : goal.returns-clause-carried
returns-clause-carried g c =
    let bindings = c.args.b.now.bindings.items in
    let asked : c.in_ok-request.request ≡ asks c.args.seq (question.GetItem c.args.letter) =
    c.in_ok-request.ensures ∙ ap (λ d. message.Request c.args.seq handlers.CallAttr (arguments root d (question.GetItem c.args.letter))) c.requires.dict in
    c.in_ok-value.ensures.carried (question.GetItem c.args.letter) asked
