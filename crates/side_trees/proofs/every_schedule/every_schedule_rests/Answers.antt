use Rattle.side_trees.specs.Toy.{toy}
use Rattle.side_trees.proofs.RestLaw.{resting}
use Rattle.side_trees.proofs.every_schedule.every_schedule_rests.Goals as goal

pub returns : goal.returns
returns c = resting toy
