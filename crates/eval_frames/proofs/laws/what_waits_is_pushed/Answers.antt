use Rattle.side_trees.proofs.BindLaw.{bind-bind}
use Rattle.eval_frames.specs.Meaning.{resume}
use Rattle.eval_frames.proofs.laws.what_waits_is_pushed.Goals as goal

pub returns : goal.returns
returns c = λ t f k. bind-bind t (resume f) k
