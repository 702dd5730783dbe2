use Rattle.std.proofs.Common.{reverse}
use Rattle.eval_comparing.proofs.LevelLaws.{left_by_item}
use Rattle.eval_comparing.proofs.levels.go_on.Goals as goal

pub returns-in-Uneven : goal.returns-in-Uneven
returns-in-Uneven c = λ outer level met is. left_by_item (reverse outer) level c.args.left c.args.right c.args.meeting c.in-Uneven.is met
