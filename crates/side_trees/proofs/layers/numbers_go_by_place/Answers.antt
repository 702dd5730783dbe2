use Rattle.side_trees.specs.Toy.{toy}
use Rattle.side_trees.proofs.NumberLaw.{by_numbers}
use Rattle.side_trees.proofs.StackLaw.{stacks_fit}
use Rattle.side_trees.proofs.layers.numbers_go_by_place.Goals as goal

pub returns-clause-places : goal.returns-clause-places
returns-clause-places c = by_numbers toy

pub returns-clause-stacks : goal.returns-clause-stacks
returns-clause-stacks c = stacks_fit toy
