use Rattle.channel_frames.proofs.Dividing.{streams-split}
use Rattle.channel_frames.proofs.laws.streams_are_frames.Goals as goal

pub returns : goal.returns
returns c = streams-split
