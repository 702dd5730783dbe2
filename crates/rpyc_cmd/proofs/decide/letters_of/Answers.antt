use Rattle.std.proofs.Common.{◌≡◌, ap, Err, ℕ, List, refl, inr}
use Rattle.rp_base.specs.declared.rules.Rule.{Rule}
use Rattle.rp_base.specs.declared.rules.Rule.TheVariants as rules
use Rattle.pair_run.specs.declared.scripts.ScriptEnd.{ScriptEnd}
use Rattle.pair_run.specs.Scripts.{IsFirstOtherQuestion}
use Rattle.rpyc_cmd.specs.Outcome.{IsTextRefusal}
use Rattle.rpyc_cmd.proofs.Outcomes.{refused_at_line}
use Rattle.rpyc_cmd.proofs.decide.letters_of.Goals as goal

pub returns-in-Err-NotYet-clause-refused : goal.returns-in-Err-NotYet-clause-refused
returns-in-Err-NotYet-clause-refused c =
    let C : List ℕ → ℕ → Rule → Type 0 = λ name line rule. (name ≡ c.args.name_a.now) × IsTextRefusal IsFirstOtherQuestion c.args.text_a.now line rule in
    refused_at_line c.refusal.result C c.args.name_a.now c.in-Err-NotYet.line rules.NotYet
    (refl, inr (c.in_ok-check_script.ensures.accepted, c.in-Err-NotYet.ensures.refused c.in-Err-NotYet.line (ap (λ (e : ScriptEnd). Err e) c.in-Err-NotYet.field-0-is), refl)) c.refusal.ensures
