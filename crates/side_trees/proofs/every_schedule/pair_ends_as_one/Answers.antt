use Rattle.side_trees.specs.SharedRun.{two_parts}
use Rattle.side_trees.specs.Toy.{toy, cell_list}
use Rattle.side_trees.proofs.TwoSides.{one_is_two}
use Rattle.side_trees.proofs.SharedUnitsLaw.{pair_ends_as_one}
use Rattle.side_trees.proofs.every_schedule.pair_ends_as_one.Goals as goal

pub returns-clause-parts : goal.returns-clause-parts
returns-clause-parts c = pair_ends_as_one toy (two_parts toy) (one_is_two toy (two_parts toy))

pub returns-clause-cells : goal.returns-clause-cells
returns-clause-cells c = pair_ends_as_one toy cell_list (one_is_two toy cell_list)
