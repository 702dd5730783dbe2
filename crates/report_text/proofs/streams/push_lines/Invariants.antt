use Rattle.std.proofs.Common.{length, string_bytes}
use Rattle.report_text.proofs.Steps.{Upto}
use Rattle.report_text.proofs.streams.push_lines.Given as goal

abbrev pub invariant-frames : goal.invariant-frames
invariant-frames l = Upto l.bytes (string_bytes l.initial.text) (string_bytes l.text) l.start l.deframer

abbrev pub decreases-frames : goal.decreases-frames
decreases-frames l = length l.deframer
