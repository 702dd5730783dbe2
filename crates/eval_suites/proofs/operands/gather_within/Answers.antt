use Rattle.std.proofs.Common.{◌-◌, reverse}
use Rattle.eval_frames.specs.Meaning.{gathers}
use Rattle.language_rules.specs.Going.{evaluates_behind}
use Rattle.eval_suites.proofs.Evaluating.{behind_operands}
use Rattle.eval_suites.proofs.operands.gather_within.Goals as goal

pub returns-clause-means : goal.returns-clause-means
returns-clause-means c =
    behind_operands c.args.texts.now c.args.store.now (evaluates_behind c.args.env c.args.values (reverse c.args.waiting) (gathers c.args.gathering)) (evaluates_behind c.args.env c.evaluate_waiting.new.values (reverse c.evaluate_waiting.new.waiting) (gathers c.args.gathering)) c.args.stack.now.items c.gather_further.new.stack.items (c.args.fuel.now - c.in_ok-left.left) c.gather_further.result
    (c.in_ok-left.ensures.goes (gathers c.args.gathering)) c.gather_further.ensures.means
