-- The frames of a whole stream: more bytes behind it, and the way of a deframer through it.
use Rattle.std.proofs.Common.{false, ◌≡◌, ℕ, zero, suc, ◌+◌, ◌<◌, ◌≤◌, List, [], ◌∷◌, ◌++◌, length, get_or, take, drop, ◌-◌, refl, sym, subst, ap, ◌∙◌, append_assoc, append-nil, arith}
use Rattle.std.specs.Prelude.{◌==◌, All, flat_map, Option, Some, None, Ok}
use Rattle.channel_frames.specs.Frames.{front, frame_of, longest, IsBytes, Tells, Judges, Front, Whole, Part, Faulty, Fault}
use Rattle.channel_frames.specs.Streams.{Frames, frames, Splits, Rest, Stop, after, behind, behind_all, read_on, frames_within, frames_from, left, resumed, placed, Turn, Fed, Given, Leads, fed, given}
use Rattle.channel_frames.proofs.Judging.{front-length, front-more, front-faulty, front-whole, front-only}
use Rattle.std.proofs.lemmas.List.{get_or-append-add, take_rest}
use Rattle.std.proofs.lemmas.List.Elements.{All-cons}
use Rattle.channel_frames.specs.declared.fault.FrameFault.{FrameFault}

-- ---- one level

-- two ways to read the bytes behind a frame that agree on all shorter bytes
abbrev Agree : ℕ → (ℕ → List ℕ → Frames) → (ℕ → List ℕ → Frames) → Type 0
Agree most p q = (at : ℕ) (r : List ℕ) → length r < most → p at r ≡ q at r

read_on-same : (p q : ℕ → List ℕ → Frames) (at : ℕ) (s : List ℕ) (f : Front) → front s ≡ f → Agree (length s) p q → read_on p at s f ≡ read_on q at s f
read_on-same p q at s (Whole body rest) e same =
    let shorter : length rest < length s = omega (arith, front-length s body rest e) in
    ap (λ (x : Frames). after ((at, body) ∷ []) x) (same (behind at body) rest shorter)
read_on-same p q at s Part e same = refl
read_on-same p q at s (Faulty fault place) e same = refl

within-same : (k m at : ℕ) (s : List ℕ) → length s < k → length s < m → frames_within k at s ≡ frames_within m at s
unfolding frames_within
within-same zero m at s h g = absurd (omega arith)
within-same (suc k) zero at s h g = absurd (omega arith)
within-same (suc k) (suc m) at s h g =
    read_on-same (frames_within k) (frames_within m) at s (front s) refl (λ b r l. within-same k m b r (omega (arith, l, h)) (omega (arith, l, g)))

-- the frames of a stream are those that its front gives
pub frames-step : (at : ℕ) (s : List ℕ) → frames_from at s ≡ read_on frames_from at s (front s)
unfolding frames_from frames_within
frames-step at s =
    read_on-same (frames_within (length s)) frames_from at s (front s) refl (λ b r l. within-same (length s) (suc (length r)) b r l (omega arith))

pub frames-whole : (at : ℕ) (s body rest : List ℕ) → front s ≡ Whole body rest → frames_from at s ≡ after ((at, body) ∷ []) (frames_from (behind at body) rest)
frames-whole at s body rest e = frames-step at s ∙ ap (λ (f : Front). read_on frames_from at s f) e

pub frames-part : (at : ℕ) (s : List ℕ) → front s ≡ Part → frames_from at s ≡ ([], Rest at s)
frames-part at s e = frames-step at s ∙ ap (λ (f : Front). read_on frames_from at s f) e

pub frames-faulty : (at : ℕ) (s : List ℕ) (fault : Fault) (place : ℕ) → front s ≡ Faulty fault place → frames_from at s ≡ ([], Stop (at + place) fault)
frames-faulty at s fault place e = frames-step at s ∙ ap (λ (f : Front). read_on frames_from at s f) e

-- ---- more bytes

abbrev Resumes : ℕ → List ℕ → List ℕ → Type 0
Resumes at s t = frames_from at (s ++ t) ≡ after (frames_from at s).0 (resumed (frames_from at s).1 t)

resumes-on : (at : ℕ) (s t : List ℕ) (f : Front) → front s ≡ f → ((b : ℕ) (r : List ℕ) → length r < length s → Resumes b r t) → Resumes at s t
resumes-on at s t (Whole body rest) e again =
    let shorter : length rest < length s = omega (arith, front-length s body rest e) in
    frames-whole at (s ++ t) body (rest ++ t) (front-more s t body rest e)
    ∙ ap (λ (x : Frames). after ((at, body) ∷ []) x) (again (behind at body) rest shorter)
    ∙ sym (ap (λ (x : Frames). after x.0 (resumed x.1 t)) (frames-whole at s body rest e))
resumes-on at s t Part e again = sym (ap (λ (x : Frames). after x.0 (resumed x.1 t)) (frames-part at s e))
resumes-on at s t (Faulty fault place) e again =
    frames-faulty at (s ++ t) fault place (front-faulty s t fault place e)
    ∙ sym (ap (λ (x : Frames). after x.0 (resumed x.1 t)) (frames-faulty at s fault place e))

resumes-within : (k at : ℕ) (s t : List ℕ) → length s < k → Resumes at s t
resumes-within zero at s t h = absurd (omega arith)
resumes-within (suc k) at s t h = resumes-on at s t (front s) refl (λ b r l. resumes-within k b r t (omega (arith, l, h)))

pub frames-resumed : (at : ℕ) (s t : List ℕ) → frames_from at (s ++ t) ≡ after (frames_from at s).0 (resumed (frames_from at s).1 t)
frames-resumed at s t = resumes-within (suc (length s)) at s t (omega arith)

-- ---- the way of a deframer

pub turns-follow : (turns : List Turn) (at : ℕ) (old new : List ℕ) → Leads old turns new
    → frames_from at (old ++ fed turns) ≡ after (placed at (given turns)) (frames_from (behind_all at (given turns)) new)
turns-follow [] at old new h = ap (λ (s : List ℕ). frames_from at s) (append-nil old ∙ sym h)
turns-follow (Fed piece ∷ later) at old new h =
    ap (λ (s : List ℕ). frames_from at s) (sym (append_assoc old piece (fed later))) ∙ turns-follow later at (old ++ piece) new h
turns-follow (Given body ∷ later) at old new (rest, e, h) =
    frames-whole at (old ++ fed later) body (rest ++ fed later) (front-more old (fed later) body rest e)
    ∙ ap (λ (x : Frames). after ((at, body) ∷ []) x) (turns-follow later (behind at body) rest new h)

-- ---- what is left, wherever the bytes stand

left-on : (k a b : ℕ) (s : List ℕ) (f : Front) → ((x y : ℕ) (r : List ℕ) → left (frames_within k x r).1 ≡ left (frames_within k y r).1)
    → left (read_on (frames_within k) a s f).1 ≡ left (read_on (frames_within k) b s f).1
left-on k a b s (Whole body rest) again = again (behind a body) (behind b body) rest
left-on k a b s Part again = refl
left-on k a b s (Faulty fault place) again = refl

left-within : (k a b : ℕ) (s : List ℕ) → left (frames_within k a s).1 ≡ left (frames_within k b s).1
unfolding frames_within
left-within zero a b s = refl
left-within (suc k) a b s = left-on k a b s (front s) (λ x y r. left-within k x y r)

pub left-same : (a b : ℕ) (s : List ℕ) → left (frames_from a s).1 ≡ left (frames_from b s).1
unfolding frames_from
left-same a b s = left-within (suc (length s)) a b s

-- what is left behind a whole frame is what is left
pub left-whole : (s body rest : List ℕ) → front s ≡ Whole body rest → left (frames_from 0 s).1 ≡ left (frames_from 0 rest).1
left-whole s body rest e = ap (λ (x : Frames). left x.1) (frames-whole 0 s body rest e) ∙ left-same (behind 0 body) 0 rest

pub left-part : (s : List ℕ) → front s ≡ Part → left (frames_from 0 s).1 ≡ length s
left-part s e = ap (λ (x : Frames). left x.1) (frames-part 0 s e)

pub left-faulty : (s : List ℕ) (fault : Fault) (place : ℕ) → front s ≡ Faulty fault place → left (frames_from 0 s).1 ≡ 0
left-faulty s fault place e = ap (λ (x : Frames). left x.1) (frames-faulty 0 s fault place e)

left-by : (s : List ℕ) (answer : FrameFault) (f : Front) → front s ≡ f → Tells answer f → left (frames_from 0 s).1 ≡ 0
left-by s answer (Whole body rest) e tells = absurd tells
left-by s answer Part e tells = absurd tells
left-by s answer (Faulty fault place) e tells = left-faulty s fault place e

pub left-told : (s : List ℕ) (answer : FrameFault) → Tells answer (front s) → left (frames_from 0 s).1 ≡ 0
left-told s answer tells = left-by s answer (front s) refl tells

-- ---- frames one behind the other

pub frames-joined : (bodies : List (List ℕ)) (at : ℕ) (tail : List ℕ) → All (λ body. length body ≤ longest) bodies
    → frames_from at (flat_map frame_of bodies ++ tail) ≡ after (placed at bodies) (frames_from (behind_all at bodies) tail)
frames-joined [] at tail fit = refl
frames-joined (body ∷ bodies) at tail fit =
    let short : length body ≤ longest = fit 0 [] (omega arith) in
    let later : All (λ b. length b ≤ longest) bodies = λ k d l. fit (suc k) d (omega (arith, l)) in
    let joined : (frame_of body ++ flat_map frame_of bodies) ++ tail ≡ frame_of body ++ (flat_map frame_of bodies ++ tail) = append_assoc (frame_of body) (flat_map frame_of bodies) tail in
    ap (λ (s : List ℕ). frames_from at s) joined
    ∙ frames-whole at (frame_of body ++ (flat_map frame_of bodies ++ tail)) body (flat_map frame_of bodies ++ tail) (front-whole body (flat_map frame_of bodies ++ tail) short)
    ∙ ap (λ (x : Frames). after ((at, body) ∷ []) x) (frames-joined bodies (behind at body) tail later)

not_whole : (body rest : List ℕ) → Part ≡ Whole body rest → ⊥
not_whole body rest h = cc

faulty_not_whole : (fault : Fault) (place : ℕ) (body rest : List ℕ) → Faulty fault place ≡ Whole body rest → ⊥
faulty_not_whole fault place body rest h = cc

abbrev IsSplit : List ℕ → Type 0
IsSplit s = (bodies : List (List ℕ)) × (tail : List ℕ) × Splits s bodies tail

alone : (s : List ℕ) → ((body rest : List ℕ) → front s ≡ Whole body rest → ⊥) → IsSplit s
alone s none = ([], s, record { fit = λ k d l. absurd (omega (arith, l)); joined = refl; ended = none })

-- the bytes behind a frame are bytes
behind-fits : (s body rest : List ℕ) → IsBytes s → s ≡ frame_of body ++ rest → IsBytes rest
behind-fits s body rest fits e i =
    let same : get_or s (length (frame_of body) + i) 0 ≡ get_or rest i 0 =
    ap (λ (t : List ℕ). get_or t (length (frame_of body) + i) 0) e ∙ get_or-append-add (frame_of body) rest i 0 in
    subst (λ (b : ℕ). b < 256) same (fits (length (frame_of body) + i))

one-more : (s body rest : List ℕ) → length body ≤ longest → s ≡ frame_of body ++ rest → IsSplit rest → IsSplit s
one-more s body rest short e (bodies, tail, split) = (
  body ∷ bodies,
  tail,
  record {
    fit = All-cons (λ b. length b ≤ longest) body bodies short split.fit;
    joined = e ∙ ap (λ (t : List ℕ). frame_of body ++ t) split.joined ∙ sym (append_assoc (frame_of body) (flat_map frame_of bodies) tail);
    ended = split.ended;
  },
)

split-on : (s : List ℕ) (f : Front) → front s ≡ f → IsBytes s → ((r : List ℕ) → length r < length s → IsBytes r → IsSplit r) → IsSplit s
split-on s (Whole body rest) e fits again =
    let shorter : length rest < length s = omega (arith, front-length s body rest e) in
    let is = front-only s body rest fits e in
    one-more s body rest is.1 is.0 (again rest shorter (behind-fits s body rest fits is.0))
split-on s Part e fits again = alone s (λ body rest h. not_whole body rest (sym e ∙ h))
split-on s (Faulty fault place) e fits again = alone s (λ body rest h. faulty_not_whole fault place body rest (sym e ∙ h))

split-within : (k : ℕ) (s : List ℕ) → length s < k → IsBytes s → IsSplit s
split-within zero s h fits = absurd (omega arith)
split-within (suc k) s h fits = split-on s (front s) refl fits (λ r l b. split-within k r (omega (arith, l, h)) b)

pub streams-split : (s : List ℕ) → IsBytes s → IsSplit s
streams-split s fits = split-within (suc (length s)) s (omega arith) fits

-- ---- faults

pub faulty-no-frame : (s more body rest : List ℕ) (fault : Fault) (place : ℕ) → front s ≡ Faulty fault place → length body ≤ longest → s ++ more ≡ frame_of body ++ rest → ⊥
faulty-no-frame s more body rest fault place e short h =
    faulty_not_whole fault place body rest (sym (front-faulty s more fault place e) ∙ ap front h ∙ front-whole body rest short)

-- ---- the loop of `finish`

abbrev Found : ℕ → List ℕ → Type 0
Found n s = (n + 6 ≤ length s) × (front s ≡ Whole (take n (drop 5 s)) (drop (n + 6) s)) × (n ≤ longest)

pub left-next : (total : ℕ) (s : List ℕ) (o : Option ℕ) (n : ℕ) → o ≡ Some n → Judges (Ok o) s → total ≡ left (frames s).1
    → total ≡ left (frames (take (length s - (5 + n + 1)) (drop (5 + n + 1) s))).1
left-next total s o n e judges h =
    let found : Found n s = subst (λ (x : Option ℕ). Judges (Ok x) s) e judges in
    let same : drop (n + 6) s ≡ take (length s - (5 + n + 1)) (drop (5 + n + 1) s) =
    ap (λ (k : ℕ). drop k s) (omega arith) ∙ sym (take_rest s (5 + n + 1)) in
    h ∙ left-whole s (take n (drop 5 s)) (drop (n + 6) s) found.1 ∙ ap (λ (r : List ℕ). left (frames r).1) same

pub left-last : (total : ℕ) (s : List ℕ) (o : Option ℕ) → o ≡ None → Judges (Ok o) s → total ≡ left (frames s).1 → total ≡ length s
left-last total s o e judges h =
    let found : front s ≡ Part = subst (λ (x : Option ℕ). Judges (Ok x) s) e judges in
    h ∙ left-part s found

pub some-left : (s : List ℕ) → (length s == 0) ≡ false → 0 < length s
some-left [] h = absurd cc
some-left (x ∷ s) h = omega arith
