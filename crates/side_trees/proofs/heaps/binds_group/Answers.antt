use Rattle.side_trees.proofs.BindLaw.{bind-return, bind-bind}
use Rattle.side_trees.proofs.heaps.binds_group.Goals as goal

pub returns-clause-unit : goal.returns-clause-unit
returns-clause-unit c = λ t. bind-return t

pub returns-clause-grouped : goal.returns-clause-grouped
returns-clause-grouped c = λ t k j. bind-bind t k j
