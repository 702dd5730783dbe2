use Rattle.std.proofs.Common.{◌∙◌, List, ℕ, [], ◌++◌, ap, sym, subst, refl, Some, Err, string_bytes}
use Rattle.rp_base.specs.declared.ends.Side.{Side}
use Rattle.message_core.specs.declared.message.Message.{Message}
use Rattle.pair_run.specs.declared.delivery.Cut.{Cut}
use Rattle.pair_run.specs.Running.{CutAfter, IsCutRun, wires}
use Rattle.pair_run.specs.Talk.{AreAnswered, Carries, stream, talk, printed, units_of}
use Rattle.pair_run.proofs.LastBindings.{talk_same, printed_same, answered_same, cut_same, cut_after_same}
use Rattle.pair_run.proofs.run.run_pair.Goals as goal

pub begin_and_converse-requires-clause-answered : goal.begin_and_converse-requires-clause-answered
begin_and_converse-requires-clause-answered g c =
    subst (AreAnswered c.args.scripts.namespace.items) (sym c.deref-3.ensures.value)
    (answered_same c.args.scripts.namespace.items c.args.scripts.bindings.items c.args.scripts.letters.items c.requires.agrees c.requires.answered)

pub returns-in-Ok-clause-came : goal.returns-in-Ok-clause-came
returns-in-Ok-clause-came g c =
    let ns = c.args.scripts.namespace.items in
    let bs = c.args.scripts.bindings.items in
    let letters = c.args.scripts.letters.items in
    let C : List (Side × Message) → Type 0 = λ ms. Carries (stream ms) (g.W.Wire.carried c.args.ab.now) (g.W.Wire.carried c.begin_and_converse.new.ab) (g.W.Wire.carried c.args.ba.now) (g.W.Wire.carried c.begin_and_converse.new.ba) in (
      (c.in-Ok.ensures.begun, subst C (talk_same ns bs letters c.requires.agrees) (subst (λ ls. C (talk ns ls)) c.deref-3.ensures.value c.in-Ok.ensures.carried)),
      c.in-Ok.ensures.printed ∙ ap (λ o. o ++ printed ns c.deref-3.result.now) c.new-2.ensures.bytes ∙ ap (printed ns) c.deref-3.ensures.value ∙ printed_same ns bs letters c.requires.agrees,
      ap (λ (n : ℕ). Some n) (c.units-units.ensures ∙ ap (λ b. units_of b c.deref-2.result.now) c.deref.ensures.value ∙ ap (units_of bs) c.deref-2.ensures.value),
      refl,
    )

pub returns-in-Err-Wire-clause-came : goal.returns-in-Err-Wire-clause-came
returns-in-Err-Wire-clause-came g c =
    let before = wires g.W.Wire.carried g.W.Wire.begun g.W.Wire.fault_count c.args.ab.now c.args.ba.now in
    let after = wires g.W.Wire.carried g.W.Wire.begun g.W.Wire.fault_count c.begin_and_converse.new.ab c.begin_and_converse.new.ba in
    let F : List ℕ → List ℕ → Type 0 = λ letters out. CutAfter c.args.scripts.namespace.items letters out (string_bytes c.begin_and_converse.new.a.output) before after in
    let failed = ap (λ (e : Cut). Err e) c.in-Err-Wire.field-0-is in (
      cut_after_same c.args.scripts.namespace.items c.args.scripts.bindings.items c.args.scripts.letters.items [] (string_bytes c.begin_and_converse.new.a.output) before after c.requires.agrees
          (subst (λ letters. F letters []) c.deref-3.ensures.value (subst (F c.deref-3.result.now) c.new-2.ensures.bytes (c.in-Err-Wire.ensures.cut failed))),
      refl,
      refl,
      c.in-Err-Wire.ensures.failed failed,
    )

pub returns-clause-part : goal.returns-clause-part
returns-clause-part g c =
    let before = wires g.W.Wire.carried g.W.Wire.begun g.W.Wire.fault_count c.args.ab.now c.args.ba.now in
    let after = wires g.W.Wire.carried g.W.Wire.begun g.W.Wire.fault_count c.begin_and_converse.new.ab c.begin_and_converse.new.ba in
    let F : List ℕ → Type 0 = λ letters. IsCutRun c.args.scripts.namespace.items letters before after in
    cut_same c.args.scripts.namespace.items c.args.scripts.bindings.items c.args.scripts.letters.items before after c.requires.agrees
    (subst F c.deref-3.ensures.value c.in-Err-NoMemory.ensures.part)
