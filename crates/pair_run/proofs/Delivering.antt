-- One message through a wire and a deframer.
use Rattle.std.proofs.Common.{◌≡◌, ◌∙◌, ℕ, ◌+◌, ◌-◌, ◌≤◌, ◌++◌, List, [], length, take, drop, ap, sym, subst, append-nil, append_assoc, Result, Ok, Err, Option, Some, None, IsTrue, arith, refl, OnOk, OnErr, min, length-take, length-drop}
use Rattle.std.proofs.lemmas.List.{take-append-drop, take-take}
use Rattle.std.proofs.Math.Seq.{take-add}
use Rattle.rp_base.specs.declared.plain.Plain.{Plain}
use Rattle.brine_codec.specs.Spelling.{spelling, spellable}
use Rattle.brine_codec.proofs.Meets.{spelled_once}
use Rattle.channel_frames.proofs.Judging.{front-whole}
use Rattle.channel_frames.specs.Frames.{front, frame_of, longest, Front, Whole, Reads}
use Rattle.channel_frames.specs.declared.fault.FrameFault.{FrameFault}
use Rattle.channel_frames.specs.declared.fault.FrameFault.TheVariants as frame_fault
use Rattle.message_core.specs.Messages as messages
use Rattle.message_core.specs.Messages.{message_value}
use Rattle.message_core.specs.declared.message.Message.{Message}
use Rattle.message_core.specs.declared.faults.MsgFault.{MsgFault}
use Rattle.message_core.specs.declared.faults.MsgFault.TheVariants as fault
use Rattle.message_core.proofs.ReadingLaws.{one_finding}
use Rattle.pair_run.specs.Talk.{IsSendable, CarriesPart}

-- a frame is in front
pub body_in_front : (body : List ℕ) → length body ≤ longest → front (frame_of body) ≡ Whole body []
body_in_front body h = ap front (sym (append-nil (frame_of body))) ∙ front-whole body [] h

judged_so : {X : Type 0} (view : X → List ℕ) (body old new : List ℕ) (r : Result (Option X) FrameFault) → length body ≤ longest → old ≡ frame_of body → Reads view (front old) r old new
    → Reads view (Whole body []) r old new
judged_so view body old new r h e reads = let F : Front → Type 0 = λ f. Reads view f r old new in subst F (ap front e ∙ body_in_front body h) reads

pub reads_some : {X : Type 0} (view : X → List ℕ) (body old new : List ℕ) (o : Option X) (x : X) → length body ≤ longest → old ≡ frame_of body → o ≡ Some x → Reads view (front old) (Ok o) old new
    → (view x ≡ body) × (new ≡ [])
reads_some {X} view body old new o x h e is reads =
    let F : Option X → Type 0 = λ k. Reads view (Whole body []) (Ok k) old new in
    subst F is (judged_so view body old new (Ok o) h e reads)

pub reads_none : {X : Type 0} (view : X → List ℕ) (body old new : List ℕ) (o : Option X) → length body ≤ longest → old ≡ frame_of body → o ≡ None → Reads view (front old) (Ok o) old new → ⊥
reads_none {X} view body old new o h e is reads =
    let F : Option X → Type 0 = λ k. Reads view (Whole body []) (Ok k) old new in
    subst F is (judged_so view body old new (Ok o) h e reads)

pub reads_fault : (X : Type 0) (view : X → List ℕ) (body old new : List ℕ) (f : FrameFault) → length body ≤ longest → old ≡ frame_of body → Reads {X = X} view (front old) (Err f) old new
    → f ≡ frame_fault.NoMemory
reads_fault X view body old new f h e reads = (judged_so {X = X} view body old new (Err f) h e reads).0

-- what is spelled so is that value
pub spelled_same : (v w : Plain) (bytes : List ℕ) → IsTrue (spellable v) → IsTrue (spellable w) → bytes ≡ spelling v → bytes ≡ spelling w → w ≡ v
spelled_same v w bytes h k e f =
    (spelled_once w v [] [] k h (append-nil (spelling w) ∙ sym f ∙ e ∙ sym (append-nil (spelling v)))).0

-- a front of the bytes that were to be carried
pub part_of_pieces : (bytes old new : List ℕ) (done : ℕ) → new ≡ old ++ take done bytes → CarriesPart bytes old new
part_of_pieces bytes old new done e = (take done bytes, drop done bytes, sym (take-append-drop done bytes), e)

-- a value that is a message is read as one, if memory is there
pub read_fault : (m : Message) (value : Plain) (e : MsgFault) → IsSendable m → value ≡ message_value m → messages.Reads value (Err e) → e ≡ fault.NoMemory
read_fault m value fault.NoMemory h is reads = refl
read_fault m value fault.M1 h is reads = let same : Err fault.M1 ≡ Ok m = one_finding value (Err fault.M1) (Ok m) reads (is, h.numbered) in cc
read_fault m value (fault.M2 n) h is reads = let same : Err (fault.M2 n) ≡ Ok m = one_finding value (Err (fault.M2 n)) (Ok m) reads (is, h.numbered) in cc
read_fault m value (fault.M3 n) h is reads = let same : Err (fault.M3 n) ≡ Ok m = one_finding value (Err (fault.M3 n)) (Ok m) reads (is, h.numbered) in cc
read_fault m value (fault.M4 n) h is reads = let same : Err (fault.M4 n) ≡ Ok m = one_finding value (Err (fault.M4 n)) (Ok m) reads (is, h.numbered) in cc
read_fault m value (fault.M5 n) h is reads = absurd reads

pub on_ok : {T E : Type 0} (r : Result T E) (P : Type 0) → P → OnOk r P
on_ok (Ok x) P p = p
on_ok (Err e) P p = tt

pub on_err : {T E : Type 0} (r : Result T E) (P : Type 0) → P → OnErr r P
on_err (Ok x) P p = tt
on_err (Err e) P p = p

pub err_gives : {T E : Type 0} (r : Result T E) (e : E) (P : Type 0) → r ≡ Err e → OnErr r P → P
err_gives {T} {E} r e P is h = let F : Result T E → Type 0 = λ x. OnErr x P in subst F is h

-- one piece more
pub piece_more : (bytes : List ℕ) (done most n : ℕ) (start mid new : List ℕ) → done ≤ length bytes → n ≤ length (take (done + most - done) (drop done bytes)) → mid ≡ start ++ take done bytes
    → new ≡ mid ++ take n (take (done + most - done) (drop done bytes)) → (done + n ≤ length bytes) × (new ≡ start ++ take (done + n) bytes)
piece_more bytes done most n start mid new within small e f =
    let len : length (take (done + most - done) (drop done bytes)) ≡ min (done + most - done) (length bytes - done) =
    length-take (done + most - done) (drop done bytes) ∙ ap (min (done + most - done)) (length-drop done bytes) in
    let inner : take n (take (done + most - done) (drop done bytes)) ≡ take n (drop done bytes) = take-take n (done + most - done) (drop done bytes) (omega arith) in (
      omega arith,
      f ∙ ap (λ ms. ms ++ take n (take (done + most - done) (drop done bytes))) e ∙ ap (λ ms. (start ++ take done bytes) ++ ms) inner
          ∙ append_assoc start (take done bytes) (take n (drop done bytes)) ∙ ap (λ ms. start ++ ms) (sym (take-add done n bytes)),
    )
