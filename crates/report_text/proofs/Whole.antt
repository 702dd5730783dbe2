-- A whole stream: its messages, and what shows its fault.
use Rattle.std.proofs.Common.{Bool, true, false, ltb, get_or, ◌≡◌, ℕ, zero, suc, ◌+◌, ◌<◌, ◌≤◌, List, [], ◌∷◌, ◌++◌, length, refl, sym, ap, ◌∙◌, subst, append_assoc, append-nil, arith, Option, Some, None, Result, Ok, Err, ◌⊎◌, inl, inr, All}
use Rattle.std.specs.Result.{result_map_both}
use Rattle.std.specs.Int.{w32, to_be_bytes}
use Rattle.std.proofs.lemmas.Bool.{ltb-true, ltb-false}
use Rattle.std.proofs.lemmas.List.{length-append, get_or_append_left, get_or_past, get_or-append-add}
use Rattle.std.proofs.lemmas.List.Concat.{flat_map-cons}
use Rattle.std.proofs.lemmas.List.Elements.{All-cons}
use Rattle.rp_base.specs.declared.plain.Plain.{Plain}
use Rattle.channel_frames.specs.Frames.{front, frame_of, longest, IsBytes, Front, Whole, Part, Faulty}
use Rattle.channel_frames.specs.Streams.{Frames, Rest, behind, frames, frames_from}
use Rattle.channel_frames.proofs.Dividing.{frames-part, frames-faulty}
use Rattle.channel_frames.proofs.Judging.{front-length, front-only, front-short, front-whole}
use Rattle.brine_codec.specs.Reading.{decoded}
use Rattle.brine_codec.specs.Spelling.{spelling, spellable}
use Rattle.brine_codec.specs.declared.ends.BrineFault.{BrineFault}
use Rattle.brine_codec.proofs.Whole.{decoded_spelled, spelling_decoded}
use Rattle.message_core.specs.Judging.{judged}
use Rattle.message_core.specs.Messages.{Finds, message_value}
use Rattle.message_core.proofs.ReadingLaws.{judged_finds}
use Rattle.message_core.specs.declared.message.Message.{Message}
use Rattle.message_core.specs.declared.faults.MsgFault.{MsgFault}
use Rattle.message_core.specs.declared.faults.PeerFault.{PeerFault}
use Rattle.report_text.specs.Contents.{Ends, IsFramed, IsMadeOf, Shows, all_framed, framed}
use Rattle.report_text.specs.Dumping.{brine_kind, dump_fault, dump_text, ending_fault, fault_at, fault_in, fault_text, frame_kind, judge, lines_of, message_at, message_kind, messages_in}
use Rattle.message_core.specs.declared.faults.PeerKind.TheVariants as peer
use Rattle.rp_base.specs.PlainValues.{plain_depth}
use Rattle.report_text.proofs.Steps.{judged_message, more_fault, more_messages, no_messages, shown_fault}

-- ---- one frame

abbrev Brine : ℕ → List ℕ → PeerFault → Type 0
Brine at body f = (b : BrineFault) × (decoded body ≡ Err b) × (f ≡ fault_at (brine_kind b.what) (at + 5 + b.at))

abbrev Value : ℕ → List ℕ → PeerFault → Type 0
Value at body f = (v : Plain) × (e : MsgFault) × (decoded body ≡ Ok v) × Finds v (Err e) × (f ≡ fault_at (message_kind e) (at + 5))

-- by what the value was judged
abbrev seen : ℕ → Result Message MsgFault → Result Message PeerFault
seen at r = result_map_both (λ m. m) (λ e. fault_at (message_kind e) (at + 5)) r

seen_message : (at : ℕ) (v : Plain) (m : Message) (r : Result Message MsgFault) → Finds v r → seen at r ≡ Ok m → Finds v (Ok m)
seen_message at v m (Ok n) finds h = let same : n ≡ m = cc in subst (λ (x : Message). Finds v (Ok x)) same finds
seen_message at v m (Err e) finds h = absurd cc

seen_fault : (at : ℕ) (v : Plain) (f : PeerFault) (r : Result Message MsgFault) → Finds v r → seen at r ≡ Err f → (e : MsgFault) × Finds v (Err e) × (f ≡ fault_at (message_kind e) (at + 5))
seen_fault at v f (Ok n) finds h = absurd cc
seen_fault at v f (Err e) finds h = let same : fault_at (message_kind e) (at + 5) ≡ f = cc in (e, finds, sym same)

judged_by : (at : ℕ) (body : List ℕ) (r : Result Plain BrineFault) (m : Message) → decoded body ≡ r → message_at (at + 5) r ≡ Ok m → (v : Plain) × (decoded body ≡ Ok v) × Finds v (Ok m)
judged_by at body (Ok v) m d h = (v, d, seen_message at v m (judged v) (judged_finds v) h)
judged_by at body (Err b) m d h = absurd cc

refused_by : (at : ℕ) (body : List ℕ) (r : Result Plain BrineFault) (f : PeerFault) → decoded body ≡ r → message_at (at + 5) r ≡ Err f → Brine at body f ⊎ Value at body f
refused_by at body (Err b) f d h = let same : fault_at (brine_kind b.what) (at + 5 + b.at) ≡ f = cc in inl (b, d, sym same)
refused_by at body (Ok v) f d h = let (e, finds, is) = seen_fault at v f (judged v) (judged_finds v) h in inr (v, e, d, finds, is)

pub message_found : (at : ℕ) (body : List ℕ) (m : Message) → judge (at, body) ≡ Ok m → (v : Plain) × (decoded body ≡ Ok v) × Finds v (Ok m)
unfolding judge
message_found at body m h = judged_by at body (decoded body) m refl h

pub fault_found : (at : ℕ) (body : List ℕ) (f : PeerFault) → judge (at, body) ≡ Err f → Brine at body f ⊎ Value at body f
unfolding judge
fault_found at body f h = refused_by at body (decoded body) f refl h

-- a frame that is judged a message is the frame of that message
framed_message : (at : ℕ) (body : List ℕ) (m : Message) → IsBytes body → length body ≤ longest → judge (at, body) ≡ Ok m → IsFramed m × (body ≡ spelling (message_value m))
framed_message at body m fits short j =
    let (v, d, finds) = message_found at body m j in
    let spelled = decoded_spelled body v fits d in
    let is : body ≡ spelling (message_value m) = spelled.2 ∙ ap spelling finds.0 in (
      record {
        numbered = finds.1;
        spelled = subst (λ (x : Plain). spellable x ≡ true) finds.0 spelled.0;
        shallow = subst (λ (x : Plain). plain_depth x ≤ 100) finds.0 spelled.1;
        short = subst (λ (s : List ℕ). length s ≤ longest) is short;
      },
      is,
    )

-- and the other way round
message_framed : (at : ℕ) (m : Message) → IsFramed m → judge (at, spelling (message_value m)) ≡ Ok m
message_framed at m fit = judged_message at (spelling (message_value m)) (message_value m) m (spelling_decoded (message_value m) fit.spelled fit.shallow) (refl, fit.numbered)

-- ---- frames of messages

-- by the messages: what is found from a place on
pub all_read : (at : ℕ) (messages : List Message) → All IsFramed messages → (messages_in (frames_from at (all_framed messages)) ≡ messages) × (fault_in (frames_from at (all_framed messages)) ≡ None)
all_read at [] fit =
    let all = frames-part at [] (front-short [] (omega arith)) in
    (ap (λ (x : Frames). messages_in x) all, ap (λ (x : Frames). fault_in x) all)
all_read at (m ∷ messages) fit =
    let body = spelling (message_value m) in
    let one : IsFramed m = fit 0 m (omega arith) in
    let later : All IsFramed messages = λ k d l. fit (suc k) d (omega (arith, l)) in
    let whole : front (all_framed (m ∷ messages)) ≡ Whole body (all_framed messages) = ap front (flat_map-cons framed m messages) ∙ front-whole body (all_framed messages) one.short in
    let is = message_framed at m one in
    let others = all_read (behind at body) messages later in (
      more_messages at (all_framed (m ∷ messages)) body (all_framed messages) m whole is ∙ ap (λ (ms : List Message). m ∷ ms) others.0,
      more_fault at (all_framed (m ∷ messages)) body (all_framed messages) m whole is ∙ others.1,
    )

pub no_fault : (messages : List Message) → All IsFramed messages → dump_fault (all_framed messages) ≡ None
unfolding dump_fault
no_fault messages fit = (all_read 0 messages fit).1

pub lines_alone : (messages : List Message) → All IsFramed messages → dump_text (all_framed messages) ≡ lines_of messages
unfolding dump_text
lines_alone messages fit =
    let found = (all_read 0 messages fit).0 in
    let none = no_fault messages fit in
    (λ i. lines_of (found i) ++ fault_text (none i)) ∙ append-nil (lines_of messages)

-- ---- any stream

record Parts (at : ℕ) (s : List ℕ) (messages : List Message) (tail : List ℕ) : Type 0 where
  fit : All IsFramed messages
  joined : s ≡ all_framed messages ++ tail
  found : messages_in (frames_from at s) ≡ messages
  fault : Ends (at + length (all_framed messages)) tail (fault_in (frames_from at s))

abbrev Made : ℕ → List ℕ → Type 0
Made at s = (messages : List Message) × (tail : List ℕ) × Parts at s messages tail

-- no message is in front
alone : (at : ℕ) (s : List ℕ) → messages_in (frames_from at s) ≡ [] → Ends at s (fault_in (frames_from at s)) → Made at s
alone at s none ends =
    let place : at ≡ at + length (all_framed []) = omega arith in
    ([], s, record { fit = λ k d l. absurd (omega (arith, l)); joined = refl; found = none; fault = subst (λ (k : ℕ). Ends k s (fault_in (frames_from at s))) place ends })

ends_so : (at : ℕ) (s : List ℕ) (o : Option PeerFault) (f : PeerFault) (x : Front) → o ≡ Some f → front s ≡ x → Shows at s x f → Ends at s o
ends_so at s o f x is e shows =
    let P : Front → Type 0 = λ y. Shows at s y f in
    let Q : Option PeerFault → Type 0 = λ p. Ends at s p in
    subst Q (sym is) (subst P (sym e) shows)

-- lists of bytes, in front and behind
fits_in_front : (xs ys : List ℕ) → IsBytes (xs ++ ys) → IsBytes xs
fits_in_front xs ys fits i = by_test (ltb i (length xs)) refl
  where
    by_test : (t : Bool) → ltb i (length xs) ≡ t → get_or xs i 0 < 256
    by_test true h = subst (λ (b : ℕ). b < 256) (get_or_append_left xs ys 0 i (ltb-true i (length xs) h)) (fits i)
    by_test false h = subst (λ (b : ℕ). b < 256) (sym (get_or_past xs i 0 (ltb-false i (length xs) h))) (omega arith)

fits_behind : (xs ys : List ℕ) → IsBytes (xs ++ ys) → IsBytes ys
fits_behind xs ys fits i = subst (λ (b : ℕ). b < 256) (get_or-append-add xs ys i 0) (fits (length xs + i))

body_fits : (body : List ℕ) → IsBytes (frame_of body) → IsBytes body
unfolding frame_of
body_fits body fits = fits_in_front body (10 ∷ []) (fits_behind (0 ∷ []) (body ++ 10 ∷ []) (fits_behind (to_be_bytes w32 (length body)) (0 ∷ body ++ 10 ∷ []) fits))

-- the bytes of a frame's data, and those behind the frame
parts_fit : (s body rest : List ℕ) → IsBytes s → s ≡ frame_of body ++ rest → IsBytes body × IsBytes rest
parts_fit s body rest fits e =
    let all : IsBytes (frame_of body ++ rest) = subst IsBytes e fits in
    (body_fits body (fits_in_front (frame_of body) rest all), fits_behind (frame_of body) rest all)

with_frame : (at : ℕ) (s body rest : List ℕ) → IsBytes s → front s ≡ Whole body rest → ((b : ℕ) (r : List ℕ) → length r < length s → IsBytes r → Made b r)
    → (r : Result Message PeerFault) → judge (at, body) ≡ r → Made at s
with_frame at s body rest fits e again (Err f) j = alone at s (no_messages at s body rest f e j) (ends_so at s (fault_in (frames_from at s)) f (Whole body rest) (shown_fault at s body rest f e j) e j)
with_frame at s body rest fits e again (Ok m) j =
    let only = front-only s body rest fits e in
    let bytes = parts_fit s body rest fits only.0 in
    let long : length s ≡ length body + 6 + length rest = front-length s body rest e in
    let (messages, tail, parts) = again (behind at body) rest (omega arith) bytes.1 in
    let (one, is) = framed_message at body m bytes.0 only.1 j in
    let cons : all_framed (m ∷ messages) ≡ framed m ++ all_framed messages = flat_map-cons framed m messages in
    let joined : s ≡ all_framed (m ∷ messages) ++ tail =
    only.0 ∙ (λ i. frame_of (is i) ++ parts.joined i) ∙ sym (append_assoc (framed m) (all_framed messages) tail) ∙ ap (λ (t : List ℕ). t ++ tail) (sym cons) in
    let sizes : length s ≡ length (all_framed (m ∷ messages)) + length tail = ap (λ (t : List ℕ). length t) joined ∙ length-append (all_framed (m ∷ messages)) tail in
    let rests : length rest ≡ length (all_framed messages) + length tail = ap (λ (t : List ℕ). length t) parts.joined ∙ length-append (all_framed messages) tail in
    let place : behind at body + length (all_framed messages) ≡ at + length (all_framed (m ∷ messages)) = omega arith in
    let ends : Ends (behind at body + length (all_framed messages)) tail (fault_in (frames_from (behind at body) rest)) = parts.fault in
    let fault = more_fault at s body rest m e j in (
      m ∷ messages,
      tail,
      record {
        fit = All-cons IsFramed m messages one parts.fit;
        joined = joined;
        found = more_messages at s body rest m e j ∙ ap (λ (ms : List Message). m ∷ ms) parts.found;
        fault = subst (λ (k : ℕ). Ends k tail (fault_in (frames_from at s))) place (subst (λ (o : Option PeerFault). Ends (behind at body + length (all_framed messages)) tail o) (sym fault) ends);
      },
    )

at_end : (at : ℕ) (s : List ℕ) → front s ≡ Part → Ends at s (ending_fault (Rest at s))
at_end at [] e = refl
at_end at (b ∷ s) e = ends_so at (b ∷ s) (ending_fault (Rest at (b ∷ s))) (fault_at (peer.F5 (length (b ∷ s))) (at + length (b ∷ s))) Part refl e (omega arith, refl)

made_on : (at : ℕ) (s : List ℕ) (x : Front) → front s ≡ x → IsBytes s → ((b : ℕ) (r : List ℕ) → length r < length s → IsBytes r → Made b r) → Made at s
made_on at s (Whole body rest) e fits again = with_frame at s body rest fits e again (judge (at, body)) refl
made_on at s Part e fits again =
    let all = frames-part at s e in
    alone at s (ap (λ (x : Frames). messages_in x) all) (subst (λ (o : Option PeerFault). Ends at s o) (sym (ap (λ (x : Frames). fault_in x) all)) (at_end at s e))
made_on at s (Faulty fault place) e fits again =
    let all = frames-faulty at s fault place e in
    alone at s (ap (λ (x : Frames). messages_in x) all) (ends_so at s (fault_in (frames_from at s)) (fault_at (frame_kind fault) (at + place)) (Faulty fault place) (ap (λ (x : Frames). fault_in x) all) e refl)

made_within : (k at : ℕ) (s : List ℕ) → length s < k → IsBytes s → Made at s
made_within zero at s h fits = absurd (omega arith)
made_within (suc k) at s h fits = made_on at s (front s) refl fits (λ b r l f. made_within k b r (omega (arith, l, h)) f)

whole_parts : (bytes : List ℕ) (messages : List Message) (tail : List ℕ) → Parts 0 bytes messages tail → IsMadeOf bytes messages tail
unfolding dump_fault dump_text
whole_parts bytes messages tail parts =
    let place : 0 + length (all_framed messages) ≡ length (all_framed messages) = omega arith in
    record {
      fit = parts.fit;
      joined = parts.joined;
      fault = subst (λ (k : ℕ). Ends k tail (fault_in (frames bytes))) place parts.fault;
      text = ap (λ (ms : List Message). lines_of ms ++ fault_text (dump_fault bytes)) parts.found;
    }

pub made_of : (bytes : List ℕ) → IsBytes bytes → (messages : List Message) × (tail : List ℕ) × IsMadeOf bytes messages tail
made_of bytes fits = let (messages, tail, parts) = made_within (suc (length bytes)) 0 bytes (omega arith) fits in (messages, tail, whole_parts bytes messages tail parts)
