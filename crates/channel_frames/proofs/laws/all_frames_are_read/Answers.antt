use Rattle.channel_frames.proofs.Dividing.{frames-joined}
use Rattle.channel_frames.proofs.laws.all_frames_are_read.Goals as goal

pub returns : goal.returns
returns c = λ at bodies tail fit. frames-joined bodies at tail fit
