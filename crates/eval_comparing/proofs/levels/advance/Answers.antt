use Rattle.std.proofs.Common.{reverse}
use Rattle.language_rules.specs.Truth.{tells}
use Rattle.eval_comparing.specs.Answers.{steps_around}
use Rattle.eval_comparing.proofs.LevelLaws.{none_left, turned_asked, turned_told, turned_uneven}
use Rattle.eval_comparing.proofs.levels.advance.Goals as goal

pub returns-in-Uneven : goal.returns-in-Uneven
returns-in-Uneven c = turned_uneven c.levels.levels c.pop.new.self c.turn.new.levels c.in-Some.level c.levels.holds c.in_ok-told-in-Some.field-0 (steps_around (reverse c.args.levels) (tells c.args.holds)) (rw c.in-Some.is at c.pop.ensures) c.in-Uneven.is c.in_ok-told-in-Some.ensures c.levels.invariant

pub returns-in-Asked : goal.returns-in-Asked
returns-in-Asked c = turned_asked c.levels.levels c.pop.new.self c.turn.new.levels c.in-Some.level c.levels.holds c.in-Asked.left c.in-Asked.right c.in_ok-told-in-Some.field-0 (steps_around (reverse c.args.levels) (tells c.args.holds)) (rw c.in-Some.is at c.pop.ensures) c.in-Asked.is c.in_ok-told-in-Some.ensures c.levels.invariant

pub returns-in-None : goal.returns-in-None
returns-in-None c = let empty = rw c.in-None.is at c.pop.ensures in none_left c.levels.levels c.levels.holds (steps_around (reverse c.args.levels) (tells c.args.holds)) empty.0 c.levels.invariant

pub levels-preserved : goal.levels-preserved
levels-preserved c = turned_told c.levels.levels c.pop.new.self c.turn.new.levels c.in-Some.level c.levels.holds c.in-Told.told c.in_ok-told-in-Some.field-0 (steps_around (reverse c.args.levels) (tells c.args.holds)) (rw c.in-Some.is at c.pop.ensures) c.in-Told.is c.in_ok-told-in-Some.ensures c.levels.invariant
