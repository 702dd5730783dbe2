use Rattle.std.proofs.Common.{ℕ}
use Rattle.side_trees.specs.Toy.{toy}
use Rattle.side_trees.proofs.FreeLaw.{free_of_cost}
use Rattle.side_trees.proofs.layers.free_messages_change_nothing.Goals as goal

pub returns : goal.returns
returns c = free_of_cost toy ℕ
