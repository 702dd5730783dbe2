use Rattle.std.proofs.Common.{◌∙◌, List, ℕ, subst, inr}
use Rattle.pair_run.specs.Running.{AreBegun, IsCutRun, wires}
use Rattle.pair_run.specs.Talk.{CarriesFront, stream, talk}
use Rattle.pair_run.proofs.Delivering.{on_err}
use Rattle.pair_run.proofs.run.begin_and_converse.Goals as goal

pub returns-in_err-converse-clause-part : goal.returns-in_err-converse-clause-part
returns-in_err-converse-clause-part g c =
    let bindings = c.args.b.now.bindings.items in
    let letters = c.args.letters.now in
    let before = wires g.W.Wire.carried g.W.Wire.begun g.W.Wire.fault_count c.args.ab.now c.args.ba.now in
    let after = wires g.W.Wire.carried g.W.Wire.begun g.W.Wire.fault_count c.converse.new.ab c.converse.new.ba in
    let begun : AreBegun after = (c.converse.ensures.begun.0 ∙ c.in_ok-begin.ensures.begun, c.converse.ensures.begun.1 ∙ c.in_ok-begin-2.ensures.begun) in
    let P : List ℕ → List ℕ → Type 0 = λ ab ba. CarriesFront (stream (talk bindings letters)) ab after.ab.carried ba after.ba.carried in
    let part : P before.ab.carried before.ba.carried =
    subst (λ ba. P before.ab.carried ba) c.begin-2.ensures.same_carried (subst (λ ab. P ab (g.W.Wire.carried c.begin-2.new.self)) c.begin.ensures.same_carried c.in_err-converse.ensures.part) in
    on_err c.from_residual-in_err-converse.result (IsCutRun bindings letters before after) (inr (begun, part))
