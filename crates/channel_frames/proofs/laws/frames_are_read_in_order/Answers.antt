use Rattle.channel_frames.proofs.Dividing.{frames-step}
use Rattle.channel_frames.proofs.laws.frames_are_read_in_order.Goals as goal

pub returns : goal.returns
returns c = frames-step
