use Rattle.channel_frames.proofs.Dividing.{frames-resumed}
use Rattle.channel_frames.proofs.laws.more_bytes_go_on.Goals as goal

pub returns : goal.returns
returns c = frames-resumed 0
