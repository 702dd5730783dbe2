use Rattle.channel_frames.proofs.Causes.{front-said, said-front}
use Rattle.channel_frames.proofs.laws.faults_say_what_is_there.Goals as goal

pub returns : goal.returns
returns c = λ bytes fault place fits. (front-said bytes fault place fits, said-front bytes fault place)
