-- The name that opens all of a dump: a worked example is `refl` under `unfolding dump_computing`.
use Rattle.std.specs.Prelude.{ℕ}
use Rattle.std.specs.Fmt.{digits}
use Rattle.channel_frames.specs.Frames.{front}
use Rattle.channel_frames.specs.Streams.{frames_from, frames_within}
use Rattle.brine_codec.specs.Computing.{brine_computing}
use Rattle.py_plain.specs.Computing.{plain_computing}
use Rattle.report_text.specs.Dumping.{dump_fault, dump_text, judge}
use Rattle.report_text.specs.MessageLines.{message_text}

unfoldable pub dump_computing : ℕ
unfolding digits front frames_from frames_within brine_computing plain_computing message_text judge dump_fault dump_text
dump_computing = 0
