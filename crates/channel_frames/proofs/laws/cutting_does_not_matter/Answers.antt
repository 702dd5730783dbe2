use Rattle.std.proofs.Common.{[]}
use Rattle.channel_frames.proofs.Dividing.{turns-follow}
use Rattle.channel_frames.proofs.laws.cutting_does_not_matter.Goals as goal

pub returns : goal.returns
returns c = λ turns waiting leads. turns-follow turns 0 [] waiting leads
