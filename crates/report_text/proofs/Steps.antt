-- One frame of a stream: what it adds to the text, and the first fault.
use Rattle.std.proofs.Common.{false, ◌≡◌, ℕ, ◌+◌, ◌-◌, ◌≤◌, List, [], ◌∷◌, ◌++◌, length, drop, map, refl, sym, ap, ◌∙◌, subst, append_assoc, append-nil, arith, Option, Some, None, Result, Ok, Err, length-drop}
use Rattle.std.specs.Result.{result_map_both, is_err, OnOk}
use Rattle.rp_base.specs.declared.plain.Plain.{Plain}
use Rattle.brine_codec.specs.Reading.{Read, decoded, value_at, whole_value, placed}
use Rattle.brine_codec.specs.Reading as reading
use Rattle.brine_codec.specs.declared.ends.BrineFault.{BrineFault}
use Rattle.brine_codec.specs.declared.ends.BrineKind.TheVariants as kinds
use Rattle.brine_codec.specs.declared.ends.DecodeEnd.{DecodeEnd}
use Rattle.brine_codec.specs.declared.ends.DecodeEnd.TheVariants as decode_end
use Rattle.message_core.specs.Judging.{judged}
use Rattle.message_core.specs.Messages as messages
use Rattle.message_core.specs.Messages.{Finds}
use Rattle.message_core.proofs.ReadingLaws.{judged_finds, one_finding}
use Rattle.message_core.specs.declared.message.Message.{Message}
use Rattle.message_core.specs.declared.faults.MsgFault.{MsgFault}
use Rattle.message_core.specs.declared.faults.MsgFault.TheVariants as fault
use Rattle.message_core.specs.declared.faults.PeerFault.{PeerFault}
use Rattle.message_core.specs.declared.faults.PeerKind.TheVariants as peer
use Rattle.report_text.specs.declared.judging.FrameEnd.TheVariants as frame_end
use Rattle.std.proofs.lemmas.List.{drop-drop}
use Rattle.std.proofs.lemmas.List.Concat.{flat_map-cons}
use Rattle.channel_frames.specs.Frames.{front, Whole, Part}
use Rattle.channel_frames.specs.Streams.{Frames, Rest, behind, frames, frames_from}
use Rattle.channel_frames.proofs.Dividing.{frames-whole, frames-part, frames-faulty}
use Rattle.channel_frames.proofs.Judging.{front-length}
use Rattle.report_text.specs.Dumping.{dump_fault, dump_text, fault_text, ending_fault, fault_at, fault_in, first_fault, judge, lines_of, message_at, message_kind, messages_in, messages_of}
use Rattle.report_text.specs.MessageLines.{line, message_text}
use Rattle.report_text.specs.Stepping.{Adds, Answers, Prints, Takes, brine_ended, message_ended, checked_end}
use Rattle.report_text.specs.declared.judging.FrameEnd.{FrameEnd}
use Rattle.report_text.proofs.Places.{rest_behind}

-- ---- a frame's data

-- a fault of brine stands inside the data or at their end
inside : (whole : ℕ) (r : Read Plain) (f : BrineFault) → whole_value whole r ≡ Err f → f.at ≤ whole
inside whole (Ok (v, [])) f h = absurd cc
inside whole (Ok (v, b ∷ rest)) f h =
    let is : placed whole (length (b ∷ rest), kinds.B9) ≡ f = cc in
    subst (λ (g : BrineFault). g.at ≤ whole) is (omega arith)
inside whole (Err g) f h =
    let is : placed whole g ≡ f = cc in
    subst (λ (x : BrineFault). x.at ≤ whole) is (omega arith)

pub fault_inside : (body : List ℕ) (f : BrineFault) → decoded body ≡ Err f → f.at ≤ length body
fault_inside body f h = inside (length body) (value_at 100 body) f h

pub judged_brine : (start : ℕ) (body : List ℕ) (end : DecodeEnd) → reading.Answers (Err end) (decoded body) → Answers {X = Message} (Err (brine_ended (start + 5) end)) (judge (start, body))
unfolding judge
judged_brine start body (decode_end.Fault f) h = ap (message_at (start + 5)) h
judged_brine start body decode_end.NoMemory h = tt

pub judged_message : (start : ℕ) (body : List ℕ) (value : Plain) (m : Message) → decoded body ≡ Ok value → Finds value (Ok m) → judge (start, body) ≡ Ok m
unfolding judge
judged_message start body value m h finds =
    ap (message_at (start + 5)) h ∙ ap (λ (r : Result Message MsgFault). result_map_both (λ m. m) (λ e. fault_at (message_kind e) (start + 5)) r) (one_finding value (judged value) (Ok m) (judged_finds value) finds)

judged_other : (start : ℕ) (body : List ℕ) (value : Plain) (e : MsgFault) → decoded body ≡ Ok value → Finds value (Err e) → judge (start, body) ≡ Err (fault_at (message_kind e) (start + 5))
unfolding judge
judged_other start body value e h finds =
    ap (message_at (start + 5)) h ∙ ap (λ (r : Result Message MsgFault). result_map_both (λ m. m) (λ e. fault_at (message_kind e) (start + 5)) r) (one_finding value (judged value) (Err e) (judged_finds value) finds)

pub judged_fault : (start : ℕ) (body : List ℕ) (value : Plain) (e : MsgFault) → decoded body ≡ Ok value → messages.Reads value (Err e) → Answers {X = Message} (Err (message_ended (start + 5) e)) (judge (start, body))
judged_fault start body value fault.M1 h finds = judged_other start body value fault.M1 h finds
judged_fault start body value (fault.M2 n) h finds = judged_other start body value (fault.M2 n) h finds
judged_fault start body value (fault.M3 n) h finds = judged_other start body value (fault.M3 n) h finds
judged_fault start body value (fault.M4 n) h finds = judged_other start body value (fault.M4 n) h finds
judged_fault start body value (fault.M5 n) h finds = judged_other start body value (fault.M5 n) h finds
judged_fault start body value fault.NoMemory h finds = tt

-- ---- the stream's end

pub end_checked : (start : ℕ) (bytes : List ℕ) → start ≤ length bytes → (start ≡ length bytes → ⊥)
    → checked_end start (drop start bytes) ≡ Err (frame_end.Fault (fault_at (peer.F5 (length bytes - start)) (length bytes)))
end_checked start bytes low apart = by_rest (drop start bytes) (length-drop start bytes)
  where
    by_rest : (rest : List ℕ) → length rest ≡ length bytes - start → checked_end start rest ≡ Err (frame_end.Fault (fault_at (peer.F5 (length bytes - start)) (length bytes)))
    by_rest [] e = absurd (apart (omega arith))
    by_rest (b ∷ rest) e =
        let there : start + length (b ∷ rest) ≡ length bytes = omega arith in
        (λ i. Err (frame_end.Fault (fault_at (peer.F5 (e i)) (there i))))

-- ---- the way through a stream

-- how far a stream is printed: up to the frame at this place, with these bytes waiting
pub record Upto (bytes old text : List ℕ) (start : ℕ) (waiting : List ℕ) : Type 0 where
  pub within : start ≤ length bytes
  pub waits : waiting ≡ drop start bytes
  pub lines : old ++ lines_of (messages_in (frames bytes)) ≡ text ++ lines_of (messages_in (frames_from start waiting))
  pub fault : dump_fault bytes ≡ fault_in (frames_from start waiting)

pub begun : (bytes old waiting : List ℕ) → waiting ≡ [] ++ bytes → Upto bytes old old 0 waiting
unfolding dump_fault
begun bytes old waiting e = record {
  within = omega arith;
  waits = e;
  lines = ap (λ (s : List ℕ). old ++ lines_of (messages_in (frames s))) (sym e);
  fault = ap (λ (s : List ℕ). fault_in (frames s)) (sym e);
}

-- a frame that is a message
pub more_messages : (at : ℕ) (s body rest : List ℕ) (m : Message) → front s ≡ Whole body rest → judge (at, body) ≡ Ok m → messages_in (frames_from at s) ≡ m ∷ messages_in (frames_from (behind at body) rest)
more_messages at s body rest m e j =
    let later = frames_from (behind at body) rest in
    ap (λ (x : Frames). messages_in x) (frames-whole at s body rest e)
    ∙ ap (λ (r : Result Message PeerFault). messages_of (r ∷ map judge later.0)) j

more_lines : (at : ℕ) (s body rest : List ℕ) (m : Message) → front s ≡ Whole body rest → judge (at, body) ≡ Ok m
    → lines_of (messages_in (frames_from at s)) ≡ line (message_text m) ++ lines_of (messages_in (frames_from (behind at body) rest))
more_lines at s body rest m e j =
    ap (λ (ms : List Message). lines_of ms) (more_messages at s body rest m e j) ∙ flat_map-cons (λ m. line (message_text m)) m (messages_in (frames_from (behind at body) rest))

pub more_fault : (at : ℕ) (s body rest : List ℕ) (m : Message) → front s ≡ Whole body rest → judge (at, body) ≡ Ok m → fault_in (frames_from at s) ≡ fault_in (frames_from (behind at body) rest)
more_fault at s body rest m e j =
    let later = frames_from (behind at body) rest in
    ap (λ (x : Frames). fault_in x) (frames-whole at s body rest e)
    ∙ ap (λ (r : Result Message PeerFault). first_fault (r ∷ map judge later.0) (ending_fault later.1)) j

pub one_more : (bytes old text new : List ℕ) (start : ℕ) (waiting body rest : List ℕ) (m : Message) → Upto bytes old text start waiting → front waiting ≡ Whole body rest → judge (start, body) ≡ Ok m
    → new ≡ text ++ line (message_text m) → Upto bytes old new (start + (5 + length body + 1)) rest
one_more bytes old text new start waiting body rest m u e j t =
    let long : length waiting ≡ length body + 6 + length rest = front-length waiting body rest e in
    let size : length waiting ≡ length bytes - start = ap (λ (s : List ℕ). length s) u.waits ∙ length-drop start bytes in
    let low : start ≤ length bytes = u.within in
    let place : behind start body ≡ start + (5 + length body + 1) = omega arith in
    record {
      within = omega (arith, long, size, low);
      waits = rest_behind waiting body rest e ∙ ap (λ (s : List ℕ). drop (length body + 6) s) u.waits ∙ drop-drop (length body + 6) start bytes ∙ ap (λ (k : ℕ). drop k bytes) (omega arith);
      lines =
          u.lines
          ∙ ap (λ (s : List ℕ). text ++ s) (more_lines start waiting body rest m e j)
          ∙ sym (append_assoc text (line (message_text m)) (lines_of (messages_in (frames_from (behind start body) rest))))
          ∙ ap (λ (s : List ℕ). s ++ lines_of (messages_in (frames_from (behind start body) rest))) (sym t)
          ∙ ap (λ (k : ℕ). new ++ lines_of (messages_in (frames_from k rest))) place;
      fault = u.fault ∙ more_fault start waiting body rest m e j ∙ ap (λ (k : ℕ). fault_in (frames_from k rest)) place;
    }

-- ---- where it ends

-- nothing more is printed
ended_by : (bytes old text : List ℕ) (start : ℕ) (waiting : List ℕ) (f : PeerFault) → Upto bytes old text start waiting → messages_in (frames_from start waiting) ≡ [] → fault_in (frames_from start waiting) ≡ Some f
    → Prints bytes (Err (frame_end.Fault f)) old text
ended_by bytes old text start waiting f u none some =
    (sym (u.lines ∙ ap (λ (ms : List Message). text ++ lines_of ms) none ∙ append-nil text), u.fault ∙ some)

-- a frame that shows a fault
pub no_messages : (at : ℕ) (s body rest : List ℕ) (f : PeerFault) → front s ≡ Whole body rest → judge (at, body) ≡ Err f → messages_in (frames_from at s) ≡ []
no_messages at s body rest f e j =
    let later = frames_from (behind at body) rest in
    ap (λ (x : Frames). messages_in x) (frames-whole at s body rest e)
    ∙ ap (λ (r : Result Message PeerFault). messages_of (r ∷ map judge later.0)) j

pub shown_fault : (at : ℕ) (s body rest : List ℕ) (f : PeerFault) → front s ≡ Whole body rest → judge (at, body) ≡ Err f → fault_in (frames_from at s) ≡ Some f
shown_fault at s body rest f e j =
    let later = frames_from (behind at body) rest in
    ap (λ (x : Frames). fault_in x) (frames-whole at s body rest e)
    ∙ ap (λ (r : Result Message PeerFault). first_fault (r ∷ map judge later.0) (ending_fault later.1)) j

pub ended_in_frame : (bytes old text new : List ℕ) (start : ℕ) (waiting body rest : List ℕ) (e : FrameEnd) → Upto bytes old text start waiting → front waiting ≡ Whole body rest
    → Adds (judge (start, body)) (Err e) text new → Prints bytes (Err e) old new
ended_in_frame bytes old text new start waiting body rest frame_end.NoMemory u w added = tt
ended_in_frame bytes old text new start waiting body rest (frame_end.Fault f) u w added =
    subst (λ (t : List ℕ). Prints bytes (Err (frame_end.Fault f)) old t) (sym added.1)
    (ended_by bytes old text start waiting f u (no_messages start waiting body rest f w added.0) (shown_fault start waiting body rest f w added.0))

pub ended_by_frame : {X : Type 0} (view : X → List ℕ) (bytes old text : List ℕ) (start : ℕ) (waiting new : List ℕ) (e : FrameEnd) → Upto bytes old text start waiting
    → Takes view start waiting (Err e) new → Prints bytes (Err e) old text
ended_by_frame view bytes old text start waiting new frame_end.NoMemory u takes = tt
ended_by_frame view bytes old text start waiting new (frame_end.Fault f) u (fault, place, e, is) =
    let all = frames-faulty start waiting fault place e in
    ended_by bytes old text start waiting f u (ap (λ (x : Frames). messages_in x) all) (ap (λ (x : Frames). fault_in x) all ∙ ap (λ (g : PeerFault). Some g) (sym is))

pub ended_at_end : (bytes old text : List ℕ) (start : ℕ) (waiting : List ℕ) (r : Result (Unit {0}) FrameEnd) → Upto bytes old text start waiting → front waiting ≡ Part → r ≡ checked_end start (drop start bytes)
    → Prints bytes r old text
ended_at_end bytes old text start waiting r u e is = rw is (by_rest (drop start bytes) u.waits)
  where
    by_rest : (rest : List ℕ) → waiting ≡ rest → Prints bytes (checked_end start rest) old text
    by_rest [] w =
        let all = ap (λ (s : List ℕ). frames_from start s) w in (
          sym (u.lines ∙ ap (λ (x : Frames). text ++ lines_of (messages_in x)) (frames-part start waiting e) ∙ append-nil text),
          u.fault ∙ ap (λ (x : Frames). fault_in x) (frames-part start waiting e) ∙ ap (λ (s : List ℕ). fault_in ([], Rest start s)) w,
        )
    by_rest (b ∷ rest) w =
        ended_by bytes old text start waiting (fault_at (peer.F5 (length (b ∷ rest))) (start + length (b ∷ rest))) u
        (ap (λ (x : Frames). messages_in x) (frames-part start waiting e))
        (ap (λ (x : Frames). fault_in x) (frames-part start waiting e) ∙ ap (λ (s : List ℕ). fault_in ([], Rest start s)) w)

-- ---- what the calls answered

pub on_fine : {T E : Type 0} (r : Result T E) (P : Type 0) → is_err r ≡ false → OnOk r P → P
on_fine (Ok x) P fine p = p
on_fine (Err e) P fine p = absurd cc

pub took : {X : Type 0} (view : X → List ℕ) (at : ℕ) (s : List ℕ) (o : Option X) (x : X) (new : List ℕ) → o ≡ Some x → Takes view at s (Ok o) new → front s ≡ Whole (view x) new
took {X} view at s o x new is takes = let F : Option X → Type 0 = λ k. Takes view at s (Ok k) new in subst F is takes

pub took_none : {X : Type 0} (view : X → List ℕ) (at : ℕ) (s : List ℕ) (o : Option X) (new : List ℕ) → ((x : X) → o ≡ Some x → ⊥) → Takes view at s (Ok o) new → front s ≡ Part
took_none view at s None new apart takes = takes
took_none view at s (Some x) new apart takes = absurd (apart x refl)

-- a frame that was taken is inside the stream
pub frame_within : (bytes old text : List ℕ) (start : ℕ) (waiting body rest : List ℕ) → Upto bytes old text start waiting → front waiting ≡ Whole body rest → start + (length body + 6) ≤ length bytes
frame_within bytes old text start waiting body rest u e =
    let long : length waiting ≡ length body + 6 + length rest = front-length waiting body rest e in
    let size : length waiting ≡ length bytes - start = ap (λ (s : List ℕ). length s) u.waits ∙ length-drop start bytes in
    let low : start ≤ length bytes = u.within in
    omega arith

pub whole_dump : (bytes old text out : List ℕ) (fault : Option PeerFault) → old ≡ [] → text ≡ old ++ lines_of (messages_in (frames bytes)) → dump_fault bytes ≡ fault → out ≡ text ++ fault_text fault
    → (out ≡ dump_text bytes) × (fault ≡ dump_fault bytes)
unfolding dump_text
whole_dump bytes old text out fault e t f o =
    let lines : text ≡ lines_of (messages_in (frames bytes)) = t ∙ ap (λ (s : List ℕ). s ++ lines_of (messages_in (frames bytes))) e in
    (o ∙ (λ i. lines i ++ fault_text (sym f i)), sym f)

pub prints_fault : (bytes old text : List ℕ) (e : FrameEnd) (f : PeerFault) → e ≡ frame_end.Fault f → Prints bytes (Err e) old text → (text ≡ old ++ lines_of (messages_in (frames bytes))) × (dump_fault bytes ≡ Some f)
prints_fault bytes old text e f is prints = let F : FrameEnd → Type 0 = λ x. Prints bytes (Err x) old text in subst F is prints
