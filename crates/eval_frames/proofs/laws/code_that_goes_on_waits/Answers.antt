use Rattle.eval_frames.proofs.Operating.{code_waits}
use Rattle.eval_frames.proofs.laws.code_that_goes_on_waits.Goals as goal

pub returns : goal.returns
returns c = code_waits
