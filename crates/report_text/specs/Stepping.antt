-- What the code's functions return.
use Rattle.std.specs.Prelude.{◌≡◌, ℕ, ◌+◌, List, [], ◌∷◌, ◌++◌, length, Option, Some, None, Result, Ok, Err}
use Rattle.std.specs.Int.{w32, from_be_bytes}
use Rattle.channel_frames.specs.Frames.{front, Fault, Whole, Part, Faulty}
use Rattle.channel_frames.specs.Streams.{frames}
use Rattle.channel_frames.specs.declared.fault.FrameFault.{FrameFault}
use Rattle.channel_frames.specs.declared.fault.FrameFault.TheVariants as frame_fault
use Rattle.brine_codec.specs.declared.ends.DecodeEnd.{DecodeEnd}
use Rattle.brine_codec.specs.declared.ends.DecodeEnd.TheVariants as decode_end
use Rattle.message_core.specs.declared.message.Message.{Message}
use Rattle.message_core.specs.declared.faults.MsgFault.{MsgFault}
use Rattle.message_core.specs.declared.faults.MsgFault.TheVariants as fault
use Rattle.message_core.specs.declared.faults.PeerKind.TheVariants as peer
use Rattle.message_core.specs.declared.faults.PeerFault.{PeerFault}
use Rattle.report_text.specs.declared.judging.FrameEnd.{FrameEnd}
use Rattle.report_text.specs.declared.judging.FrameEnd.TheVariants as frame_end
use Rattle.report_text.specs.MessageLines.{line, message_text}
use Rattle.report_text.specs.Dumping.{brine_kind, dump_fault, fault_at, frame_kind, lines_of, message_kind, messages_in}

-- the answer is this one, unless memory ran out
abbrev pub Answers : {X : Type 0} → Result X FrameEnd → Result X PeerFault → Type 0
Answers (Ok x) whole = whole ≡ Ok x
Answers (Err (frame_end.Fault f)) whole = whole ≡ Err f
Answers (Err frame_end.NoMemory) whole = Unit {0}

-- a fault of data that begin at this byte, or want of memory
abbrev pub brine_ended : ℕ → DecodeEnd → FrameEnd
brine_ended at (decode_end.Fault f) = frame_end.Fault (fault_at (brine_kind f.what) (at + f.at))
brine_ended at decode_end.NoMemory = frame_end.NoMemory

-- a fault of the value of data that begin at this byte, or want of memory
abbrev pub message_ended : ℕ → MsgFault → FrameEnd
message_ended at fault.NoMemory = frame_end.NoMemory
message_ended at f = frame_end.Fault (fault_at (message_kind f) at)

-- the length that the first four bytes tell
abbrev pub told_length : List ℕ → ℕ
told_length (a ∷ b ∷ c ∷ d ∷ rest) = from_be_bytes w32 (a ∷ b ∷ c ∷ d ∷ [])
told_length _ = 0

-- a fault of a frame that stands at this place, at its byte, or want of memory
abbrev pub shown : ℕ → FrameFault → List ℕ → FrameEnd
shown at (frame_fault.F1 n) bytes = frame_end.Fault (fault_at (peer.F1 n) at)
shown at frame_fault.F2 bytes = frame_end.Fault (fault_at peer.F2 (at + 4))
shown at (frame_fault.F3 flag) bytes = frame_end.Fault (fault_at (peer.F3 flag) (at + 4))
shown at (frame_fault.F4 byte) bytes = frame_end.Fault (fault_at (peer.F4 byte) (at + (5 + told_length bytes)))
shown at _ bytes = frame_end.NoMemory

-- What is in front of the bytes from a place on: a frame, which is taken, or none, or a fault; or memory ran out.
abbrev pub Takes : {X : Type 0} → (X → List ℕ) → ℕ → List ℕ → Result (Option X) FrameEnd → List ℕ → Type 0
Takes view at old (Ok (Some x)) new = front old ≡ Whole (view x) new
Takes view at old (Ok None) new = front old ≡ Part
Takes view at old (Err (frame_end.Fault f)) new = (fault : Fault) × (place : ℕ) × (front old ≡ Faulty fault place) × (f ≡ fault_at (frame_kind fault) (at + place))
Takes view at old (Err frame_end.NoMemory) new = Unit {0}

-- The line of the message that a frame was judged was appended, or the answer tells its fault, unless memory ran out.
abbrev pub Adds : Result Message PeerFault → Result (Unit {0}) FrameEnd → List ℕ → List ℕ → Type 0
Adds judged (Ok _) old new = (m : Message) × (judged ≡ Ok m) × (new ≡ old ++ line (message_text m))
Adds judged (Err (frame_end.Fault f)) old new = (judged ≡ Err f) × (new ≡ old)
Adds judged (Err frame_end.NoMemory) old new = Unit {0}

-- whether a stream may end in these bytes, which stand at this place
abbrev pub checked_end : ℕ → List ℕ → Result (Unit {0}) FrameEnd
checked_end start [] = Ok tt
checked_end start (b ∷ bytes) = Err (frame_end.Fault (fault_at (peer.F5 (length (b ∷ bytes))) (start + length (b ∷ bytes))))

-- The lines of the messages were appended, and the answer tells the first fault, unless memory ran out.
abbrev pub Prints : List ℕ → Result (Unit {0}) FrameEnd → List ℕ → List ℕ → Type 0
Prints bytes (Ok _) old new = (new ≡ old ++ lines_of (messages_in (frames bytes))) × (dump_fault bytes ≡ None)
Prints bytes (Err (frame_end.Fault f)) old new = (new ≡ old ++ lines_of (messages_in (frames bytes))) × (dump_fault bytes ≡ Some f)
Prints bytes (Err frame_end.NoMemory) old new = Unit {0}
