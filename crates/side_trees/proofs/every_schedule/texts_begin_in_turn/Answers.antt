use Rattle.side_trees.specs.SharedRun.{two_parts}
use Rattle.side_trees.specs.Toy.{toy, cell_list}
use Rattle.side_trees.proofs.InTurnLaw.{in_turn}
use Rattle.side_trees.proofs.every_schedule.texts_begin_in_turn.Goals as goal

pub returns-clause-parts : goal.returns-clause-parts
returns-clause-parts c = in_turn toy (two_parts toy)

pub returns-clause-cells : goal.returns-clause-cells
returns-clause-cells c = in_turn toy cell_list
