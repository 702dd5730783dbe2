use Rattle.std.proofs.Common.{ℕ}
use Rattle.side_trees.specs.Toy.{toy}
use Rattle.side_trees.proofs.CountLaw.{counted}
use Rattle.side_trees.proofs.layers.references_balance.Goals as goal

pub returns : goal.returns
returns c = counted toy ℕ
