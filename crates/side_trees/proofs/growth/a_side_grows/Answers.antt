use Rattle.side_trees.specs.Toy.{toy}
use Rattle.side_trees.proofs.GrowthLaw.{growth}
use Rattle.side_trees.proofs.growth.a_side_grows.Goals as goal

pub returns : goal.returns
returns c = growth toy
