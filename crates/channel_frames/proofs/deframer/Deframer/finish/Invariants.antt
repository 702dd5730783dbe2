use Rattle.std.proofs.Common.{◌≡◌, length}
use Rattle.channel_frames.specs.Streams.{frames, left}
use Rattle.channel_frames.proofs.deframer.Deframer.finish.Given as goal

abbrev pub invariant-frames : goal.invariant-frames
invariant-frames l = left (frames l.self).1 ≡ left (frames l.rest).1

abbrev pub decreases-frames : goal.decreases-frames
decreases-frames l = length l.rest
