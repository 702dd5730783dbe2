use Rattle.side_trees.specs.Toy.{toy, cell_list}
use Rattle.side_trees.proofs.HeapParts.{one_heap}
use Rattle.side_trees.proofs.two_sides.one_heap.Goals as goal

pub returns : goal.returns
returns c = one_heap toy cell_list
