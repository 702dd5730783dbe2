-- What a stream of frames is printed as: the messages in front of the first fault, and that fault.
use Rattle.std.specs.Prelude.{ℕ, ◌+◌, List, [], ◌∷◌, ◌++◌, length, map, flat_map, codes, decimal, Option, Some, None, Result, Ok, Err}
use Rattle.std.specs.Result.{result_map_both}
use Rattle.rp_base.specs.declared.plain.Plain.{Plain}
use Rattle.channel_frames.specs.Frames.{Fault, TooLong, Compressed, BadFlag, BadFlusher}
use Rattle.channel_frames.specs.Streams.{Frames, frames, Ending, Rest, Stop}
use Rattle.brine_codec.specs.declared.ends.BrineKind.{BrineKind}
use Rattle.brine_codec.specs.declared.ends.BrineKind.TheVariants as brine
use Rattle.brine_codec.specs.declared.ends.BrineFault.{BrineFault}
use Rattle.brine_codec.specs.Reading.{decoded}
use Rattle.message_core.specs.declared.message.Message.{Message}
use Rattle.message_core.specs.declared.faults.MsgFault.{MsgFault}
use Rattle.message_core.specs.declared.faults.MsgFault.TheVariants as fault
use Rattle.message_core.specs.declared.faults.PeerKind.{PeerKind}
use Rattle.message_core.specs.declared.faults.PeerKind.TheVariants as peer
use Rattle.message_core.specs.declared.faults.PeerFault.{PeerFault}
use Rattle.message_core.specs.Judging.{judged}
use Rattle.message_core.specs.PeerNames.{peer_code}
use Rattle.report_text.specs.MessageLines.{line, message_text}

-- this fault, at this byte of the stream
abbrev pub fault_at : PeerKind → ℕ → PeerFault
fault_at what at = record { what = what; at = at }

-- the faults of frames, of brine and of messages among all faults of a peer
abbrev pub frame_kind : Fault → PeerKind
frame_kind (TooLong length) = peer.F1 length
frame_kind Compressed = peer.F2
frame_kind (BadFlag flag) = peer.F3 flag
frame_kind (BadFlusher byte) = peer.F4 byte

abbrev pub brine_kind : BrineKind → PeerKind
brine_kind brine.B1 = peer.B1
brine_kind (brine.B2 tag) = peer.B2 tag
brine_kind brine.B3 = peer.B3
brine_kind brine.B4 = peer.B4
brine_kind brine.B5 = peer.B5
brine_kind brine.B6 = peer.B6
brine_kind brine.B7 = peer.B7
brine_kind brine.B8 = peer.B8
brine_kind brine.B9 = peer.B9

-- of a value, only M1 to M4 are found
abbrev pub message_kind : MsgFault → PeerKind
message_kind fault.M1 = peer.M1
message_kind (fault.M2 kind) = peer.M2 kind
message_kind (fault.M3 handler) = peer.M3 handler
message_kind (fault.M4 number) = peer.M4 number
message_kind (fault.M5 number) = peer.M5 number
message_kind fault.NoMemory = peer.M1

-- The message that the data from this byte on are, or their first fault: of brine at its byte, of a message at the first.
abbrev pub message_at : ℕ → Result Plain BrineFault → Result Message PeerFault
message_at at (Err f) = Err (fault_at (brine_kind f.what) (at + f.at))
message_at at (Ok value) = result_map_both (λ m. m) (λ e. fault_at (message_kind e) at) (judged value)

-- a frame, by its place and its data, which begin five bytes behind its place
unfoldable pub judge : ℕ × List ℕ → Result Message PeerFault
judge frame = message_at (frame.0 + 5) (decoded frame.1)

-- the messages in front of the first fault
abbrev pub messages_of : List (Result Message PeerFault) → List Message
messages_of [] = []
messages_of (Ok m ∷ later) = m ∷ messages_of later
messages_of (Err f ∷ later) = []

-- the first fault of the list, or where it has none, what stands behind it
abbrev pub first_fault : List (Result Message PeerFault) → Option PeerFault → Option PeerFault
first_fault [] behind = behind
first_fault (Ok m ∷ later) behind = first_fault later behind
first_fault (Err f ∷ later) behind = Some f

-- the fault behind the whole frames: that of the next frame, or at the stream's end that a frame is begun there
abbrev pub ending_fault : Ending → Option PeerFault
ending_fault (Rest at []) = None
ending_fault (Rest at (b ∷ bytes)) = Some (fault_at (peer.F5 (length (b ∷ bytes))) (at + length (b ∷ bytes)))
ending_fault (Stop at fault) = Some (fault_at (frame_kind fault) at)

-- `fault CODE PLACE`, where there is one
abbrev pub fault_text : Option PeerFault → List ℕ
fault_text None = []
fault_text (Some f) = line (codes "fault " ++ peer_code f.what ++ codes " " ++ decimal f.at)

-- the messages of these frames, their lines, and the first fault
abbrev pub messages_in : Frames → List Message
messages_in all = messages_of (map judge all.0)

abbrev pub lines_of : List Message → List ℕ
lines_of messages = flat_map (λ m. line (message_text m)) messages

abbrev pub fault_in : Frames → Option PeerFault
fault_in all = first_fault (map judge all.0) (ending_fault all.1)

-- the first fault of a stream
unfoldable pub dump_fault : List ℕ → Option PeerFault
dump_fault bytes = fault_in (frames bytes)

-- what a stream is printed as
unfoldable pub dump_text : List ℕ → List ℕ
dump_text bytes = lines_of (messages_in (frames bytes)) ++ fault_text (dump_fault bytes)
