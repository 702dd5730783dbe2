use Rattle.channel_frames.proofs.Judging.{front-whole}
use Rattle.channel_frames.proofs.laws.whole_frames_are_read.Goals as goal

pub returns : goal.returns
returns c = front-whole
