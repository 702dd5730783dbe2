-- What a stream is: frames of messages, and then what shows a fault.
use Rattle.std.specs.Prelude.{◌≡◌, ℕ, ◌+◌, ◌^◌, ◌<◌, ◌≤◌, List, [], ◌++◌, flat_map, length, Option, Some, None, Err, All, IsTrue}
use Rattle.channel_frames.specs.Frames.{front, frame_of, longest, Front, Whole, Part, Faulty}
use Rattle.brine_codec.specs.Spelling.{spelling, spellable}
use Rattle.rp_base.specs.PlainValues.{plain_depth}
use Rattle.message_core.specs.Messages.{message_number, message_value}
use Rattle.message_core.specs.declared.message.Message.{Message}
use Rattle.message_core.specs.declared.faults.PeerFault.{PeerFault}
use Rattle.message_core.specs.declared.faults.PeerKind.TheVariants as peer
use Rattle.report_text.specs.Dumping.{dump_fault, dump_text, fault_at, fault_text, frame_kind, judge, lines_of}

-- a message whose value has a spelling that a frame can hold
pub record IsFramed (m : Message) : Type 0 where
  pub numbered : message_number m < 2 ^ 64
  pub spelled : IsTrue (spellable (message_value m))
  pub shallow : plain_depth (message_value m) ≤ 100
  pub short : length (spelling (message_value m)) ≤ longest

-- the frame of the spelling of a message's value
abbrev pub framed : Message → List ℕ
framed m = frame_of (spelling (message_value m))

-- the frames of messages, one behind the other
abbrev pub all_framed : List Message → List ℕ
all_framed messages = flat_map framed messages

-- these bytes, which stand at this place, show the fault: a frame whose data show it, a frame that is begun, or no frame
abbrev pub Shows : ℕ → List ℕ → Front → PeerFault → Type 0
Shows at bytes (Whole body rest) f = judge (at, body) ≡ Err f
Shows at bytes Part f = (0 < length bytes) × (f ≡ fault_at (peer.F5 (length bytes)) (at + length bytes))
Shows at bytes (Faulty fault place) f = f ≡ fault_at (frame_kind fault) (at + place)

-- bytes at this place that show the fault, or none where there is no fault
abbrev pub Ends : ℕ → List ℕ → Option PeerFault → Type 0
Ends at bytes None = bytes ≡ []
Ends at bytes (Some f) = Shows at bytes (front bytes) f

-- The stream is the frames of these messages and then a tail, which shows the first fault. The messages are its lines.
pub record IsMadeOf (bytes : List ℕ) (messages : List Message) (tail : List ℕ) : Type 0 where
  pub fit : All IsFramed messages
  pub joined : bytes ≡ all_framed messages ++ tail
  pub fault : Ends (length (all_framed messages)) tail (dump_fault bytes)
  pub text : dump_text bytes ≡ lines_of messages ++ fault_text (dump_fault bytes)
