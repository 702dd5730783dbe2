use Rattle.channel_frames.proofs.Causes.{begun-front, front-begun, part-frame}
use Rattle.channel_frames.proofs.laws.parts_are_begun_frames.Goals as goal

pub returns-clause-begun : goal.returns-clause-begun
returns-clause-begun c = λ bytes fits. (front-begun bytes fits, begun-front bytes)

pub returns-clause-front_of_a_frame : goal.returns-clause-front_of_a_frame
returns-clause-front_of_a_frame c = part-frame
