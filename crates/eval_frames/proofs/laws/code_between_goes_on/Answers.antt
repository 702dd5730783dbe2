use Rattle.eval_frames.proofs.Operating.{code_goes_on}
use Rattle.eval_frames.proofs.laws.code_between_goes_on.Goals as goal

pub returns : goal.returns
returns c = code_goes_on
