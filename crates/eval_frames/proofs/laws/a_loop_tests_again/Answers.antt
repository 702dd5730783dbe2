use Rattle.eval_frames.proofs.Turns.{turns}
use Rattle.eval_frames.proofs.laws.a_loop_tests_again.Goals as goal

pub returns : goal.returns
returns c = turns
