use Rattle.side_trees.specs.Toy.{toy, cell_list}
use Rattle.side_trees.proofs.TwoSides.{one_is_two}
use Rattle.side_trees.proofs.PairRestLaw.{pair_rests, pair_comes}
use Rattle.side_trees.proofs.every_schedule.pair_comes_to_rest.Goals as goal

pub returns-clause-rests : goal.returns-clause-rests
returns-clause-rests c = pair_rests toy cell_list (one_is_two toy cell_list)

pub returns-clause-comes : goal.returns-clause-comes
returns-clause-comes c = pair_comes toy cell_list (one_is_two toy cell_list)
