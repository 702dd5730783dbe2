use Rattle.std.proofs.Common.{◌≡◌, ℕ, List, inr}
use Rattle.rp_base.specs.declared.rules.Rule.{Rule}
use Rattle.rp_base.specs.declared.rules.Rule.TheVariants as rules
use Rattle.pair_run.specs.Scripts.{IsFirstUnbound}
use Rattle.rpyc_cmd.specs.Outcome.{IsRefusal}
use Rattle.rpyc_cmd.proofs.Outcomes.{refused_by}
use Rattle.rpyc_cmd.proofs.decide.read_scripts.Goals as goal

pub returns-in-Err-clause-refused : goal.returns-in-Err-clause-refused
returns-in-Err-clause-refused c =
    let letters = c.in_ok-letters.letters.items in
    let bindings = c.in_ok-bindings.bindings.items in
    let C : List ℕ → ℕ → Rule → Type 0 = λ name line rule. (name ≡ c.args.name_a.now) × IsFirstUnbound bindings letters line × (rule ≡ rules.NotYet) in
    refused_by c.in-Err.stop C (IsRefusal c.args.name_a.now c.args.text_a.now c.args.name_b.now c.args.text_b.now)
    (λ name line rule h. inr (inr (letters, bindings, c.in_ok-letters.ensures.asks, c.in_ok-bindings.ensures.binds, h.0, h.1, h.2))) c.in-Err.ensures.refused
