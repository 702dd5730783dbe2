use Rattle.std.proofs.Common.{◌+◌, ◌*◌}
use Rattle.eval_at_once.proofs.evaluating.+evaluates.Given as goal

abbrev pub decreases-evaluate : goal.decreases-evaluate
decreases-evaluate l = 3 * l.depth + 2

abbrev pub decreases-evaluate_parts : goal.decreases-evaluate_parts
decreases-evaluate_parts l = 3 * l.depth + 1

abbrev pub decreases-evaluate_two : goal.decreases-evaluate_two
decreases-evaluate_two l = 3 * l.depth + 3
