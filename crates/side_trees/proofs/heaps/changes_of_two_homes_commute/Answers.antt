use Rattle.side_trees.specs.Toy.{toy, cell_list}
use Rattle.side_trees.proofs.HeapLaw.{changes-commute}
use Rattle.side_trees.proofs.heaps.changes_of_two_homes_commute.Goals as goal

pub returns : goal.returns
returns c = changes-commute toy cell_list
