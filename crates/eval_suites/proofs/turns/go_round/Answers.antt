use Rattle.std.proofs.Common.{◌-◌}
use Rattle.eval_frames.specs.declared.frame.Frame.TheVariants as frame
use Rattle.language_rules.specs.Texts.{executes_suite}
use Rattle.eval_suites.proofs.Moves.{over_frame, round}
use Rattle.eval_suites.proofs.turns.go_round.Goals as goal

pub returns-clause-means : goal.returns-clause-means
returns-clause-means c =
    round c.args.texts.now c.args.store.now c.execute_suite.new.store c.args.env c.args.test c.args.body c.args.holds c.args.stack.now.items c.execute_suite.new.stack.items (c.args.fuel.now - c.execute_suite.new.fuel) c.execute_suite.result c.if-not-holds.false
    (over_frame c.args.texts.now c.args.store.now c.execute_suite.new.store (executes_suite c.args.env c.args.body) (frame.While c.args.env c.args.test c.args.body) c.args.stack.now.items c.push.new.self.items c.execute_suite.new.stack.items (c.args.fuel.now - c.execute_suite.new.fuel) c.execute_suite.result
    c.in_ok-push.ensures.items c.execute_suite.ensures.means)
