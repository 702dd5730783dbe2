use Rattle.side_trees.specs.SharedRun.{two_parts}
use Rattle.side_trees.specs.Toy.{toy, cell_list}
use Rattle.side_trees.proofs.TwoSides.{one_is_two}
use Rattle.side_trees.proofs.two_sides.one_is_two.Goals as goal

pub returns-clause-parts : goal.returns-clause-parts
returns-clause-parts c = one_is_two toy (two_parts toy)

pub returns-clause-cells : goal.returns-clause-cells
returns-clause-cells c = one_is_two toy cell_list
