use Rattle.std.proofs.Common.{reverse}
use Rattle.language_rules.specs.Truth.{tells}
use Rattle.eval_comparing.proofs.LevelLaws.{answered, decided}
use Rattle.eval_comparing.specs.Answers.{steps_around}
use Rattle.eval_comparing.proofs.deciding.decide_levels.Goals as goal

pub returns-clause-means : goal.returns-clause-means
returns-clause-means c = decided c.give_answer.result c.give_answer.new.stack.items c.args.stack.now.items c.args.levels c.args.holds
    (answered c.give_answer.result c.give_answer.new.stack.items c.args.stack.now.items (steps_around (reverse c.args.levels) (tells c.args.holds)) c.in_ok-answer.answer c.in_ok-answer.ensures c.give_answer.ensures.means)
