use Rattle.channel_frames.proofs.Dividing.{faulty-no-frame}
use Rattle.channel_frames.proofs.Judging.{front-faulty}
use Rattle.channel_frames.proofs.laws.faults_stay.Goals as goal

pub returns-clause-stay : goal.returns-clause-stay
returns-clause-stay c = front-faulty

pub returns-clause-begin_no_frame : goal.returns-clause-begin_no_frame
returns-clause-begin_no_frame c = faulty-no-frame
