-- What stands in front of a stream, by its first bytes, and the laws of frames.
use Rattle.std.proofs.Common.{◌≡◌, ◌≢◌, ℕ, zero, suc, ◌+◌, ◌<◌, ◌≤◌, Bool, true, false, cond, eqb, ltb, List, [], ◌∷◌, ◌++◌, length, get_or, take, drop, refl, sym, inr, ap, subst, ◌∙◌, append_assoc, arith}
use Rattle.std.specs.Int.{w32, from_be_bytes, to_be_bytes}
use Rattle.std.proofs.lemmas.Bool.{ltb-false, ltb-true, le-ltb, lt-ltb, eqb-true, eq-eqb, ne_eqb}
use Rattle.std.proofs.lemmas.List.{take_at, drop_at, take-append-drop, length-append, length-take, get_or_at, get_or_append_left, drop_more}
use Rattle.std.proofs.lemmas.Nat.{be_bytes_4, from_be_bytes-to_be_bytes_4}
use Rattle.std.specs.Prelude.{Result, Ok, Err, IfErr, IsErrAnd}
use Rattle.channel_frames.specs.declared.fault.FrameFault.{FrameFault}
use Rattle.channel_frames.specs.declared.fault.FrameFault.TheVariants as frame_fault
use Rattle.channel_frames.specs.Frames.{front, judged, Refuses, Tells, answer_of, frame_of, IsBytes, longest, Front, Whole, Part, Faulty, Fault, TooLong, Compressed, BadFlag, BadFlusher}

-- ---- by the length, the flag and the bytes behind

-- the tests: too long, compressed, not compressed, all there, the flusher
abbrev pub chosen : Bool → Bool → Bool → Bool → Bool → ℕ → ℕ → ℕ → Front → Front
chosen l z p m e n f u x = cond l (Faulty (TooLong n) 0) (cond z (Faulty Compressed 4) (cond p (cond m (cond e x (Faulty (BadFlusher u) (n + 5))) Part) (Faulty (BadFlag f) 4)))

record Picked (l p m e : Bool) (x w : Front) : Type 0 where
  short : l ≡ false
  plain : p ≡ true
  there : m ≡ true
  flushed : e ≡ true
  same : x ≡ w

chosen-whole : (l z p m e : Bool) (n f u : ℕ) (x : Front) (body rest : List ℕ) → chosen l z p m e n f u x ≡ Whole body rest → Picked l p m e x (Whole body rest)
chosen-whole true z p m e n f u x body rest h = absurd cc
chosen-whole false true p m e n f u x body rest h = absurd cc
chosen-whole false false false m e n f u x body rest h = absurd cc
chosen-whole false false true false e n f u x body rest h = absurd cc
chosen-whole false false true true false n f u x body rest h = absurd cc
chosen-whole false false true true true n f u x body rest h = record { short = refl; plain = refl; there = refl; flushed = refl; same = h }

-- a fault stays, where the byte behind the data stays once it is there
abbrev Stays : Bool → Bool → Bool → Bool → ℕ → ℕ → Type 0
Stays m e m' e' u u' = m ≡ true → (m' ≡ true) × (e' ≡ e) × (u' ≡ u)

chosen-faulty : (l z p m e m' e' : Bool) (n f u u' : ℕ) (body rest body' rest' : List ℕ) (fault : Fault) (place : ℕ) → Stays m e m' e' u u'
    → chosen l z p m e n f u (Whole body rest) ≡ Faulty fault place → chosen l z p m' e' n f u' (Whole body' rest') ≡ Faulty fault place
chosen-faulty true z p m e m' e' n f u u' body rest body' rest' fault place s h = h
chosen-faulty false true p m e m' e' n f u u' body rest body' rest' fault place s h = h
chosen-faulty false false false m e m' e' n f u u' body rest body' rest' fault place s h = h
chosen-faulty false false true false e m' e' n f u u' body rest body' rest' fault place s h = absurd cc
chosen-faulty false false true true true m' e' n f u u' body rest body' rest' fault place s h = absurd cc
chosen-faulty false false true true false m' e' n f u u' body rest body' rest' fault place s h = rw ((s refl).0, (s refl).1, (s refl).2) h

pub judged-too_long : (n f : ℕ) (r : List ℕ) → longest < n → judged n f r ≡ Faulty (TooLong n) 0
judged-too_long n f r h = rw (lt-ltb longest n h) refl

pub judged-compressed : (n f : ℕ) (r : List ℕ) → n ≤ longest → f ≡ 1 → judged n f r ≡ Faulty Compressed 4
judged-compressed n f r h z = rw (z, le-ltb longest n h) refl

pub judged-flagged : (n f : ℕ) (r : List ℕ) → n ≤ longest → (f ≡ 0 → ⊥) → (f ≡ 1 → ⊥) → judged n f r ≡ Faulty (BadFlag f) 4
judged-flagged n f r h z o = rw (le-ltb longest n h, ne_eqb f 0 z, ne_eqb f 1 o) refl

pub judged-part : (n f : ℕ) (r : List ℕ) → n ≤ longest → f ≡ 0 → length r ≤ n → judged n f r ≡ Part
judged-part n f r h z s = rw (z, le-ltb longest n h, le-ltb n (length r) s) refl

pub judged-not_flushed : (n f : ℕ) (r : List ℕ) → n ≤ longest → f ≡ 0 → n < length r → (get_or r n 0 ≡ 10 → ⊥) → judged n f r ≡ Faulty (BadFlusher (get_or r n 0)) (n + 5)
judged-not_flushed n f r h z s e = rw (z, le-ltb longest n h, lt-ltb n (length r) s, ne_eqb (get_or r n 0) 10 e) refl

pub judged-whole : (n f : ℕ) (r : List ℕ) → n ≤ longest → f ≡ 0 → n < length r → get_or r n 0 ≡ 10 → judged n f r ≡ Whole (take n r) (drop (n + 1) r)
judged-whole n f r h z s e = rw (z, le-ltb longest n h, lt-ltb n (length r) s, eq-eqb (get_or r n 0) 10 e) refl

-- by the data and the flusher
judged-read : (n : ℕ) (body rest : List ℕ) → n ≤ longest → length body ≡ n → judged n 0 (body ++ 10 ∷ rest) ≡ Whole body rest
judged-read n body rest h long =
    let len : n < length (body ++ 10 ∷ rest) = omega (arith, length-append body (10 ∷ rest), long) in
    let last : get_or (body ++ 10 ∷ rest) n 0 ≡ 10 = get_or_at body 10 rest 0 n long in
    let data_is : take n (body ++ 10 ∷ rest) ≡ body = take_at body (10 ∷ rest) n long in
    let regrouped : body ++ 10 ∷ rest ≡ (body ++ 10 ∷ []) ++ rest = sym (append_assoc body (10 ∷ []) rest) in
    let front_len : length (body ++ 10 ∷ []) ≡ n + 1 = length-append body (10 ∷ []) ∙ ap (λ (k : ℕ). k + 1) long in
    let rest_is : drop (n + 1) (body ++ 10 ∷ rest) ≡ rest = rw regrouped (drop_at (body ++ 10 ∷ []) rest (n + 1) front_len) in
    judged-whole n 0 (body ++ 10 ∷ rest) h refl len last
    ∙ ap (λ (t : List ℕ). Whole t (drop (n + 1) (body ++ 10 ∷ rest))) data_is
    ∙ ap (λ (t : List ℕ). Whole body t) rest_is

-- ---- by the first bytes

pub front-short : (s : List ℕ) → length s < 5 → front s ≡ Part
unfolding front
front-short s h = rw (lt-ltb (length s) 5 h) refl

pub front-judged : (s : List ℕ) → 5 ≤ length s → front s ≡ judged (from_be_bytes w32 (take 4 s)) (get_or s 4 0) (drop 5 s)
unfolding front
front-judged s h = rw (le-ltb (length s) 5 h) refl

pub take_four : (s : List ℕ) → 5 ≤ length s → take 4 s ≡ get_or s 0 0 ∷ get_or s 1 0 ∷ get_or s 2 0 ∷ get_or s 3 0 ∷ []
take_four [] h = absurd (omega arith)
take_four (a ∷ []) h = absurd (omega arith)
take_four (a ∷ b ∷ []) h = absurd (omega arith)
take_four (a ∷ b ∷ c ∷ []) h = absurd (omega arith)
take_four (a ∷ b ∷ c ∷ d ∷ s) h = refl

-- by the number that the first four bytes are
pub front-numbered : (s : List ℕ) (n : ℕ) → 5 ≤ length s → n ≡ from_be_bytes w32 (get_or s 0 0 ∷ get_or s 1 0 ∷ get_or s 2 0 ∷ get_or s 3 0 ∷ []) → front s ≡ judged n (get_or s 4 0) (drop 5 s)
front-numbered s n h e =
    let number : from_be_bytes w32 (take 4 s) ≡ n = ap (λ (t : List ℕ). from_be_bytes w32 t) (take_four s h) ∙ sym e in
    front-judged s h ∙ ap (λ (k : ℕ). judged k (get_or s 4 0) (drop 5 s)) number

pub from_fault : (x : Front) (fault : Fault) (place : ℕ) → x ≡ Faulty fault place → Tells (answer_of fault) x
from_fault x fault place h = subst (λ (y : Front). Tells (answer_of fault) y) (sym h) refl

-- an answer that is want of memory
pub refused : {X : Type 0} (n : ℕ) (r : Result X FrameFault) → n ≤ longest → IsErrAnd r (λ e. e ≡ frame_fault.NoMemory) → IfErr r (Refuses n)
refused n (Ok x) h e = tt
refused n (Err answer) h e = inr (h, e)

-- ---- the laws

pub front-whole : (body rest : List ℕ) → length body ≤ longest → front (frame_of body ++ rest) ≡ Whole body rest
unfolding frame_of
front-whole body rest h =
    let tail : (body ++ 10 ∷ []) ++ rest ≡ body ++ 10 ∷ rest = append_assoc body (10 ∷ []) rest in
    let n-is : from_be_bytes w32 (to_be_bytes w32 (length body)) ≡ length body = from_be_bytes-to_be_bytes_4 (length body) (omega arith) in
    front-judged (frame_of body ++ rest) (omega arith)
    ∙ ap (λ (t : List ℕ). judged (from_be_bytes w32 (to_be_bytes w32 (length body))) 0 t) tail
    ∙ ap (λ (n : ℕ). judged n 0 (body ++ 10 ∷ rest)) n-is
    ∙ judged-read (length body) body rest h refl

whole_body : (a b c d : List ℕ) → Whole a b ≡ Whole c d → a ≡ c
whole_body a b c d h = cc

whole_rest : (a b c d : List ℕ) → Whole a b ≡ Whole c d → b ≡ d
whole_rest a b c d h = cc

-- what was judged a frame: its cells
abbrev Spelled : ℕ → ℕ → List ℕ → List ℕ → List ℕ → Type 0
Spelled n f r body rest = (n ≤ longest) × (f ≡ 0) × (length body ≡ n) × (r ≡ (body ++ 10 ∷ []) ++ rest)

judged-spelled : (n f : ℕ) (r body rest : List ℕ) → judged n f r ≡ Whole body rest → Spelled n f r body rest
judged-spelled n f r body rest h =
    let p = chosen-whole (ltb longest n) (eqb f 1) (eqb f 0) (ltb n (length r)) (eqb (get_or r n 0) 10) n f (get_or r n 0) (Whole (take n r) (drop (n + 1) r)) body rest h in
    let there : n < length r = ltb-true n (length r) p.there in
    let last : get_or r n 0 ≡ 10 = eqb-true (get_or r n 0) 10 p.flushed in
    let body_is : take n r ≡ body = whole_body (take n r) (drop (n + 1) r) body rest p.same in
    let rest_is : drop (n + 1) r ≡ rest = whole_rest (take n r) (drop (n + 1) r) body rest p.same in
    let len : length (take n r) ≡ n = omega (arith, length-take n r) in
    let behind : drop n r ≡ 10 ∷ rest = drop_more r n 0 there ∙ ap (λ (x : ℕ). x ∷ drop (n + 1) r) last ∙ ap (λ (t : List ℕ). 10 ∷ t) rest_is in
    let parts : r ≡ body ++ 10 ∷ rest = sym (take-append-drop n r) ∙ ap (λ (t : List ℕ). t ++ drop n r) body_is ∙ ap (λ (t : List ℕ). body ++ t) behind in
    (ltb-false longest n p.short, eqb-true f 0 p.plain, sym (ap (λ (t : List ℕ). length t) body_is) ∙ len, parts ∙ sym (append_assoc body (10 ∷ []) rest))

part_or_whole : (body rest : List ℕ) → Part ≡ Whole body rest → ⊥
part_or_whole body rest h = cc

pub four_fit : (a b c d : ℕ) → a < 256 → b < 256 → c < 256 → d < 256 → (i : ℕ) → get_or (a ∷ b ∷ c ∷ d ∷ []) i 0 < 256
four_fit a b c d p q r s zero = p
four_fit a b c d p q r s (suc zero) = q
four_fit a b c d p q r s (suc (suc zero)) = r
four_fit a b c d p q r s (suc (suc (suc zero))) = s
four_fit a b c d p q r s (suc (suc (suc (suc i)))) = omega arith

pub front-only : (s body rest : List ℕ) → IsBytes s → front s ≡ Whole body rest → (s ≡ frame_of body ++ rest) × (length body ≤ longest)
unfolding frame_of
front-only [] body rest fits h = absurd (part_or_whole body rest (sym (front-short [] (omega arith)) ∙ h))
front-only (a ∷ []) body rest fits h = absurd (part_or_whole body rest (sym (front-short (a ∷ []) (omega arith)) ∙ h))
front-only (a ∷ b ∷ []) body rest fits h = absurd (part_or_whole body rest (sym (front-short (a ∷ b ∷ []) (omega arith)) ∙ h))
front-only (a ∷ b ∷ c ∷ []) body rest fits h = absurd (part_or_whole body rest (sym (front-short (a ∷ b ∷ c ∷ []) (omega arith)) ∙ h))
front-only (a ∷ b ∷ c ∷ d ∷ []) body rest fits h = absurd (part_or_whole body rest (sym (front-short (a ∷ b ∷ c ∷ d ∷ []) (omega arith)) ∙ h))
front-only (a ∷ b ∷ c ∷ d ∷ f ∷ r) body rest fits h =
    let head = a ∷ b ∷ c ∷ d ∷ [] in
    let n = from_be_bytes w32 (a ∷ b ∷ c ∷ d ∷ []) in
    let g = judged-spelled n f r body rest (sym (front-judged (a ∷ b ∷ c ∷ d ∷ f ∷ r) (omega arith)) ∙ h) in
    let head_is : to_be_bytes w32 (length body) ≡ a ∷ b ∷ c ∷ d ∷ [] = be_bytes_4 (a ∷ b ∷ c ∷ d ∷ []) (length body) refl (four_fit a b c d (fits 0) (fits 1) (fits 2) (fits 3)) g.2 in
    let flag_is : f ∷ r ≡ 0 ∷ ((body ++ 10 ∷ []) ++ rest) = ap (λ (x : ℕ). x ∷ r) g.1 ∙ ap (λ (t : List ℕ). 0 ∷ t) g.3 in
    let long : length body ≤ longest = omega (arith, g.0, g.2) in
    (ap (λ (t : List ℕ). (a ∷ b ∷ c ∷ d ∷ []) ++ t) flag_is ∙ ap (λ (t : List ℕ). t ++ 0 ∷ ((body ++ 10 ∷ []) ++ rest)) (sym head_is), long)

some_length : (xs : List ℕ) → xs ≢ [] → 0 < length xs
some_length [] h = absurd (h refl)
some_length (x ∷ xs) h = omega arith

pub front-part : (body given missing : List ℕ) → length body ≤ longest → frame_of body ≡ given ++ missing → missing ≢ [] → front given ≡ Part
unfolding frame_of
front-part body [] missing l h m = front-short [] (omega arith)
front-part body (a ∷ []) missing l h m = front-short (a ∷ []) (omega arith)
front-part body (a ∷ b ∷ []) missing l h m = front-short (a ∷ b ∷ []) (omega arith)
front-part body (a ∷ b ∷ c ∷ []) missing l h m = front-short (a ∷ b ∷ c ∷ []) (omega arith)
front-part body (a ∷ b ∷ c ∷ d ∷ []) missing l h m = front-short (a ∷ b ∷ c ∷ d ∷ []) (omega arith)
front-part body (a ∷ b ∷ c ∷ d ∷ f ∷ r) missing l h m =
    let head_is : to_be_bytes w32 (length body) ≡ a ∷ b ∷ c ∷ d ∷ [] = ap (λ (t : List ℕ). take 4 t) h in
    let flag_is : 0 ≡ f = ap (λ (t : List ℕ). get_or t 4 0) h in
    let tail_is : body ++ 10 ∷ [] ≡ r ++ missing = ap (λ (t : List ℕ). drop 5 t) h in
    let n-is : from_be_bytes w32 (to_be_bytes w32 (length body)) ≡ length body = from_be_bytes-to_be_bytes_4 (length body) (omega arith) in
    let number : from_be_bytes w32 (a ∷ b ∷ c ∷ d ∷ []) ≡ length body = ap (λ (t : List ℕ). from_be_bytes w32 t) (sym head_is) ∙ n-is in
    let missed : 0 < length missing = some_length missing m in
    let fewer : length r ≤ length body = omega (arith, ap (λ (t : List ℕ). length t) tail_is, length-append body (10 ∷ []), length-append r missing) in
    front-judged (a ∷ b ∷ c ∷ d ∷ f ∷ r) (omega arith)
    ∙ ap (λ (n : ℕ). judged n f r) number
    ∙ judged-part (length body) f r l (sym flag_is) fewer

-- ---- more bytes

pub front-length : (s body rest : List ℕ) → front s ≡ Whole body rest → length s ≡ length body + 6 + length rest
front-length [] body rest h = absurd (part_or_whole body rest (sym (front-short [] (omega arith)) ∙ h))
front-length (a ∷ []) body rest h = absurd (part_or_whole body rest (sym (front-short (a ∷ []) (omega arith)) ∙ h))
front-length (a ∷ b ∷ []) body rest h = absurd (part_or_whole body rest (sym (front-short (a ∷ b ∷ []) (omega arith)) ∙ h))
front-length (a ∷ b ∷ c ∷ []) body rest h = absurd (part_or_whole body rest (sym (front-short (a ∷ b ∷ c ∷ []) (omega arith)) ∙ h))
front-length (a ∷ b ∷ c ∷ d ∷ []) body rest h = absurd (part_or_whole body rest (sym (front-short (a ∷ b ∷ c ∷ d ∷ []) (omega arith)) ∙ h))
front-length (a ∷ b ∷ c ∷ d ∷ f ∷ r) body rest h =
    let g = judged-spelled (from_be_bytes w32 (a ∷ b ∷ c ∷ d ∷ [])) f r body rest (sym (front-judged (a ∷ b ∷ c ∷ d ∷ f ∷ r) (omega arith)) ∙ h) in
    let r_is : length r ≡ length ((body ++ 10 ∷ []) ++ rest) = ap (λ (t : List ℕ). length t) g.3 in
    omega (arith, r_is, length-append (body ++ 10 ∷ []) rest, length-append body (10 ∷ []))

pub front-more : (s t body rest : List ℕ) → front s ≡ Whole body rest → front (s ++ t) ≡ Whole body (rest ++ t)
front-more [] t body rest h = absurd (part_or_whole body rest (sym (front-short [] (omega arith)) ∙ h))
front-more (a ∷ []) t body rest h = absurd (part_or_whole body rest (sym (front-short (a ∷ []) (omega arith)) ∙ h))
front-more (a ∷ b ∷ []) t body rest h = absurd (part_or_whole body rest (sym (front-short (a ∷ b ∷ []) (omega arith)) ∙ h))
front-more (a ∷ b ∷ c ∷ []) t body rest h = absurd (part_or_whole body rest (sym (front-short (a ∷ b ∷ c ∷ []) (omega arith)) ∙ h))
front-more (a ∷ b ∷ c ∷ d ∷ []) t body rest h = absurd (part_or_whole body rest (sym (front-short (a ∷ b ∷ c ∷ d ∷ []) (omega arith)) ∙ h))
front-more (a ∷ b ∷ c ∷ d ∷ f ∷ r) t body rest h =
    let n = from_be_bytes w32 (a ∷ b ∷ c ∷ d ∷ []) in
    let g = judged-spelled n f r body rest (sym (front-judged (a ∷ b ∷ c ∷ d ∷ f ∷ r) (omega arith)) ∙ h) in
    let joined : r ++ t ≡ body ++ 10 ∷ (rest ++ t) =
    ap (λ (x : List ℕ). x ++ t) g.3 ∙ append_assoc (body ++ 10 ∷ []) rest t ∙ append_assoc body (10 ∷ []) (rest ++ t) in
    front-judged (a ∷ b ∷ c ∷ d ∷ f ∷ (r ++ t)) (omega arith)
    ∙ ap (λ (k : ℕ). judged n k (r ++ t)) g.1
    ∙ ap (λ (x : List ℕ). judged n 0 x) joined
    ∙ judged-read n body (rest ++ t) g.0 g.2

judged-faulty : (n f : ℕ) (r t : List ℕ) (fault : Fault) (place : ℕ) → judged n f r ≡ Faulty fault place → judged n f (r ++ t) ≡ Faulty fault place
judged-faulty n f r t fault place h =
    let stays : Stays (ltb n (length r)) (eqb (get_or r n 0) 10) (ltb n (length (r ++ t))) (eqb (get_or (r ++ t) n 0) 10) (get_or r n 0) (get_or (r ++ t) n 0) =
    λ there.
    let few : n < length r = ltb-true n (length r) there in
    let more : n < length (r ++ t) = omega (arith, length-append r t) in
    let byte : get_or (r ++ t) n 0 ≡ get_or r n 0 = get_or_append_left r t 0 n few in
    (lt-ltb n (length (r ++ t)) more, ap (λ (b : ℕ). eqb b 10) byte, byte) in
    chosen-faulty (ltb longest n) (eqb f 1) (eqb f 0) (ltb n (length r)) (eqb (get_or r n 0) 10) (ltb n (length (r ++ t))) (eqb (get_or (r ++ t) n 0) 10) n f (get_or r n 0) (get_or (r ++ t) n 0) (take n r) (drop (n + 1) r) (take n (r ++ t)) (drop (n + 1) (r ++ t)) fault place stays h

pub part_or_faulty : (fault : Fault) (place : ℕ) → Part ≡ Faulty fault place → ⊥
part_or_faulty fault place h = cc

pub front-faulty : (s t : List ℕ) (fault : Fault) (place : ℕ) → front s ≡ Faulty fault place → front (s ++ t) ≡ Faulty fault place
front-faulty [] t fault place h = absurd (part_or_faulty fault place (sym (front-short [] (omega arith)) ∙ h))
front-faulty (a ∷ []) t fault place h = absurd (part_or_faulty fault place (sym (front-short (a ∷ []) (omega arith)) ∙ h))
front-faulty (a ∷ b ∷ []) t fault place h = absurd (part_or_faulty fault place (sym (front-short (a ∷ b ∷ []) (omega arith)) ∙ h))
front-faulty (a ∷ b ∷ c ∷ []) t fault place h = absurd (part_or_faulty fault place (sym (front-short (a ∷ b ∷ c ∷ []) (omega arith)) ∙ h))
front-faulty (a ∷ b ∷ c ∷ d ∷ []) t fault place h = absurd (part_or_faulty fault place (sym (front-short (a ∷ b ∷ c ∷ d ∷ []) (omega arith)) ∙ h))
front-faulty (a ∷ b ∷ c ∷ d ∷ f ∷ r) t fault place h =
    let n = from_be_bytes w32 (a ∷ b ∷ c ∷ d ∷ []) in
    front-judged (a ∷ b ∷ c ∷ d ∷ f ∷ (r ++ t)) (omega arith)
    ∙ judged-faulty n f r t fault place (sym (front-judged (a ∷ b ∷ c ∷ d ∷ f ∷ r) (omega arith)) ∙ h)
