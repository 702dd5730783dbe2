use Rattle.std.proofs.Common.{◌≡◌, Bool, Ok, Option, refl, subst}
use Rattle.language_rules.specs.Truth.{tells, truth_step}
use Rattle.value_operators.specs.Answering.{TellsUnlessAsked}
use Rattle.eval_suites.proofs.Moves.{is_tested}
use Rattle.eval_suites.proofs.testing.test_at_once.Goals as goal

pub returns-in-Ok-Some : goal.returns-in-Ok-Some
returns-in-Ok-Some c =
    let told : truth_step c.in_ok-tested.tested.value ≡ tells c.in-Ok-Some.holds = subst (λ (o : Option Bool). TellsUnlessAsked (truth_step c.in_ok-tested.tested.value) (Ok o)) c.in-Ok-Some.field-0-is c.in-Ok-Some.ensures.tells in
    is_tested c.args.store.now.cells c.args.texts.now c.args.env c.args.test c.args.units c.in_ok-tested.tested (record { holds = c.in-Ok-Some.holds; left = c.in_ok-tested.tested.left }) c.in_ok-tested.ensures told refl
