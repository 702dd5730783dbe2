use Rattle.std.proofs.Common.{◌-◌, reverse}
use Rattle.eval_frames.specs.Meaning.{calls}
use Rattle.language_rules.specs.Going.{evaluates_behind}
use Rattle.eval_suites.proofs.Evaluating.{behind_arguments}
use Rattle.eval_suites.proofs.operands.call_within.Goals as goal

pub returns-clause-means : goal.returns-clause-means
returns-clause-means c =
    behind_arguments c.args.texts.now c.args.store.now (evaluates_behind c.args.env c.args.values (reverse c.args.waiting) (calls c.args.callee)) (evaluates_behind c.args.env c.evaluate_waiting.new.values (reverse c.evaluate_waiting.new.waiting) (calls c.args.callee)) c.args.stack.now.items c.gather_arguments.new.stack.items (c.args.fuel.now - c.in_ok-left.left) c.gather_arguments.result
    (c.in_ok-left.ensures.goes (calls c.args.callee)) c.gather_arguments.ensures.means
