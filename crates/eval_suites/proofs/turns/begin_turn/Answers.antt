use Rattle.eval_suites.specs.Within.{goes_round}
use Rattle.eval_suites.proofs.Moves.{behind_test, turn_tested}
use Rattle.language_rules.specs.Beginnings.{while_begins}
use Rattle.eval_suites.proofs.turns.begin_turn.Goals as goal

pub returns-in-Some-clause-means : goal.returns-in-Some-clause-means
returns-in-Some-clause-means c =
    behind_test c.args.texts.now c.args.store.now c.go_round.new.store (while_begins c.args.env c.args.test c.args.body) (goes_round c.args.env c.args.test c.args.body) c.args.stack.now.items c.go_round.new.stack.items c.args.fuel.now c.go_round.new.fuel c.in-Some.tested c.go_round.result
    c.in-Some.ensures.1 c.go_round.ensures.spent (turn_tested c.args.texts.now c.args.store.now c.args.env c.args.test c.args.body c.args.fuel.now c.args.stack.now.items c.in-Some.tested c.in-Some.ensures) c.go_round.ensures.means
