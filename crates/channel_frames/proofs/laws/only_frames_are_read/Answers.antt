use Rattle.channel_frames.proofs.Judging.{front-only}
use Rattle.channel_frames.proofs.laws.only_frames_are_read.Goals as goal

pub returns : goal.returns
returns c = front-only
