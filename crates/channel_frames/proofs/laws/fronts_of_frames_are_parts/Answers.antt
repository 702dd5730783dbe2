use Rattle.channel_frames.proofs.Judging.{front-part}
use Rattle.channel_frames.proofs.laws.fronts_of_frames_are_parts.Goals as goal

pub returns : goal.returns
returns c = front-part
