-- What stands in front, said of the bytes themselves.
use Rattle.std.proofs.Common.{◌≡◌, ◌≢◌, ℕ, zero, suc, ◌+◌, ◌<◌, ◌≤◌, Bool, true, false, eqb, ltb, List, [], ◌∷◌, ◌++◌, length, get_or, take, drop, refl, sym, inl, inr, ap, subst, ◌∙◌, append_assoc, replicate, ◌-◌, arith}
use Rattle.std.specs.Int.{w32, from_be_bytes, to_be_bytes}
use Rattle.std.proofs.lemmas.Bool.{ltb-false, ltb-true, eqb-true, eq-eqb}
use Rattle.std.proofs.lemmas.List.{get_or-drop, length-drop, length-append, length-replicate, take-append-drop}
use Rattle.std.proofs.lemmas.Nat.{be_bytes_4, from_be_bytes-to_be_bytes_4}
use Rattle.channel_frames.specs.Frames.{front, judged, frame_of, IsBytes, longest, Front, Whole, Part, Faulty, Fault, TooLong, Compressed, BadFlag, BadFlusher, Begins, Says, IsBegun}
use Rattle.channel_frames.proofs.Judging.{chosen, four_fit, part_or_faulty, front-short, front-judged, judged-too_long, judged-compressed, judged-flagged, judged-part, judged-not_flushed}

-- ---- from the tests to the bytes

-- what the tests say where they show this
abbrev Shown : Bool → Bool → Bool → Bool → Bool → ℕ → ℕ → ℕ → Front → Type 0
Shown l z p m e n f u (Faulty (TooLong k) place) = (k ≡ n) × (l ≡ true) × (place ≡ 0)
Shown l z p m e n f u (Faulty Compressed place) = (l ≡ false) × (z ≡ true) × (place ≡ 4)
Shown l z p m e n f u (Faulty (BadFlag b) place) = (b ≡ f) × (l ≡ false) × (z ≡ false) × (p ≡ false) × (place ≡ 4)
Shown l z p m e n f u (Faulty (BadFlusher b) place) = (b ≡ u) × (l ≡ false) × (p ≡ true) × (m ≡ true) × (e ≡ false) × (place ≡ n + 5)
Shown l z p m e n f u Part = (l ≡ false) × (p ≡ true) × (m ≡ false)
Shown l z p m e n f u (Whole body rest) = Unit {0}

chosen-shown : (l z p m e : Bool) (n f u : ℕ) (body rest : List ℕ) → Shown l z p m e n f u (chosen l z p m e n f u (Whole body rest))
chosen-shown true z p m e n f u body rest = (refl, refl, refl)
chosen-shown false true p m e n f u body rest = (refl, refl, refl)
chosen-shown false false false m e n f u body rest = (refl, refl, refl, refl, refl)
chosen-shown false false true false e n f u body rest = (refl, refl, refl)
chosen-shown false false true true false n f u body rest = (refl, refl, refl, refl, refl, refl)
chosen-shown false false true true true n f u body rest = tt

judged-shown : (n f : ℕ) (r : List ℕ) (x : Front) → judged n f r ≡ x → Shown (ltb longest n) (eqb f 1) (eqb f 0) (ltb n (length r)) (eqb (get_or r n 0) 10) n f (get_or r n 0) x
judged-shown n f r x h =
    let P : Front → Type 0 = λ y. Shown (ltb longest n) (eqb f 1) (eqb f 0) (ltb n (length r)) (eqb (get_or r n 0) 10) n f (get_or r n 0) y in
    subst P h (chosen-shown (ltb longest n) (eqb f 1) (eqb f 0) (ltb n (length r)) (eqb (get_or r n 0) 10) n f (get_or r n 0) (take n r) (drop (n + 1) r))

true_or_false : true ≡ false → ⊥
true_or_false h = cc

above_one : (f : ℕ) → eqb f 1 ≡ false → eqb f 0 ≡ false → 1 < f
above_one zero a b = absurd cc
above_one (suc zero) a b = absurd cc
above_one (suc (suc f)) a b = omega arith

five_begin : (a b c d f : ℕ) (r : List ℕ) → IsBytes (a ∷ b ∷ c ∷ d ∷ f ∷ r) → Begins (from_be_bytes w32 (a ∷ b ∷ c ∷ d ∷ [])) f (a ∷ b ∷ c ∷ d ∷ f ∷ r)
five_begin a b c d f r fits =
    let n = from_be_bytes w32 (a ∷ b ∷ c ∷ d ∷ []) in
    let head_is : to_be_bytes w32 n ≡ a ∷ b ∷ c ∷ d ∷ [] = be_bytes_4 (a ∷ b ∷ c ∷ d ∷ []) n refl (four_fit a b c d (fits 0) (fits 1) (fits 2) (fits 3)) refl in
    (omega (arith, fits 0, fits 1, fits 2, fits 3), ap (λ (t : List ℕ). t ++ f ∷ []) (sym head_is))

said : (a b c d f : ℕ) (r : List ℕ) (fault : Fault) (place : ℕ) → IsBytes (a ∷ b ∷ c ∷ d ∷ f ∷ r)
    → judged (from_be_bytes w32 (a ∷ b ∷ c ∷ d ∷ [])) f r ≡ Faulty fault place → Says fault place (a ∷ b ∷ c ∷ d ∷ f ∷ r)
said a b c d f r (TooLong k) place fits h =
    let n = from_be_bytes w32 (a ∷ b ∷ c ∷ d ∷ []) in
    let s = judged-shown n f r (Faulty (TooLong k) place) h in
    let long : longest < n = ltb-true longest n s.1 in
    (f, subst (λ (k : ℕ). Begins k f (a ∷ b ∷ c ∷ d ∷ f ∷ r)) (sym s.0) (five_begin a b c d f r fits), subst (λ (k : ℕ). longest < k) (sym s.0) long, s.2)
said a b c d f r Compressed place fits h =
    let n = from_be_bytes w32 (a ∷ b ∷ c ∷ d ∷ []) in
    let s = judged-shown n f r (Faulty Compressed place) h in
    (n, subst (λ (k : ℕ). Begins n k (a ∷ b ∷ c ∷ d ∷ f ∷ r)) (eqb-true f 1 s.1) (five_begin a b c d f r fits), ltb-false longest n s.0, s.2)
said a b c d f r (BadFlag flag) place fits h =
    let n = from_be_bytes w32 (a ∷ b ∷ c ∷ d ∷ []) in
    let s = judged-shown n f r (Faulty (BadFlag flag) place) h in
    let high : 1 < f = above_one f s.2 s.3 in
    (n, subst (λ (k : ℕ). Begins n k (a ∷ b ∷ c ∷ d ∷ f ∷ r)) (sym s.0) (five_begin a b c d f r fits), ltb-false longest n s.1, subst (λ (k : ℕ). 1 < k) (sym s.0) high, s.4)
said a b c d f r (BadFlusher byte) place fits h =
    let n = from_be_bytes w32 (a ∷ b ∷ c ∷ d ∷ []) in
    let s = judged-shown n f r (Faulty (BadFlusher byte) place) h in
    let there : n < length r = ltb-true n (length r) s.3 in
    let other : get_or r n 0 ≡ 10 → ⊥ = λ e. absurd (true_or_false (sym (eq-eqb (get_or r n 0) 10 e) ∙ s.4)) in
    let five_more : place ≡ 5 + n = omega (arith, s.5) in
    let at : get_or (a ∷ b ∷ c ∷ d ∷ f ∷ r) place 0 ≡ get_or r n 0 = ap (λ (k : ℕ). get_or (a ∷ b ∷ c ∷ d ∷ f ∷ r) k 0) five_more ∙ sym (get_or-drop 5 (a ∷ b ∷ c ∷ d ∷ f ∷ r) n 0) in (
      n,
      subst (λ (k : ℕ). Begins n k (a ∷ b ∷ c ∷ d ∷ f ∷ r)) (eqb-true f 0 s.2) (five_begin a b c d f r fits),
      ltb-false longest n s.1,
      s.5,
      omega (arith, s.5, there),
      at ∙ sym s.0,
      λ e. other (sym s.0 ∙ e),
    )

pub front-said : (s : List ℕ) (fault : Fault) (place : ℕ) → IsBytes s → front s ≡ Faulty fault place → Says fault place s
front-said [] fault place fits h = absurd (part_or_faulty fault place (sym (front-short [] (omega arith)) ∙ h))
front-said (a ∷ []) fault place fits h = absurd (part_or_faulty fault place (sym (front-short (a ∷ []) (omega arith)) ∙ h))
front-said (a ∷ b ∷ []) fault place fits h = absurd (part_or_faulty fault place (sym (front-short (a ∷ b ∷ []) (omega arith)) ∙ h))
front-said (a ∷ b ∷ c ∷ []) fault place fits h = absurd (part_or_faulty fault place (sym (front-short (a ∷ b ∷ c ∷ []) (omega arith)) ∙ h))
front-said (a ∷ b ∷ c ∷ d ∷ []) fault place fits h = absurd (part_or_faulty fault place (sym (front-short (a ∷ b ∷ c ∷ d ∷ []) (omega arith)) ∙ h))
front-said (a ∷ b ∷ c ∷ d ∷ f ∷ r) fault place fits h = said a b c d f r fault place fits (sym (front-judged (a ∷ b ∷ c ∷ d ∷ f ∷ r) (omega arith)) ∙ h)

pub front-begun : (s : List ℕ) → IsBytes s → front s ≡ Part → IsBegun s
front-begun [] fits h = inl (omega arith)
front-begun (a ∷ []) fits h = inl (omega arith)
front-begun (a ∷ b ∷ []) fits h = inl (omega arith)
front-begun (a ∷ b ∷ c ∷ []) fits h = inl (omega arith)
front-begun (a ∷ b ∷ c ∷ d ∷ []) fits h = inl (omega arith)
front-begun (a ∷ b ∷ c ∷ d ∷ f ∷ r) fits h =
    let n = from_be_bytes w32 (a ∷ b ∷ c ∷ d ∷ []) in
    let t = judged-shown n f r Part (sym (front-judged (a ∷ b ∷ c ∷ d ∷ f ∷ r) (omega arith)) ∙ h) in
    let few : length r ≤ n = ltb-false n (length r) t.2 in
    inr (n, subst (λ (k : ℕ). Begins n k (a ∷ b ∷ c ∷ d ∷ f ∷ r)) (eqb-true f 0 t.1) (five_begin a b c d f r fits), ltb-false longest n t.0, omega (arith, few))

-- ---- from the bytes to what stands in front

five_long : (s : List ℕ) (n flag : ℕ) → Begins n flag s → 5 ≤ length s
five_long [] n flag b = let e : 0 ≡ 5 = ap (λ (t : List ℕ). length t) b.1 in absurd (omega (arith, e))
five_long (x ∷ []) n flag b = let e : 1 ≡ 5 = ap (λ (t : List ℕ). length t) b.1 in absurd (omega (arith, e))
five_long (x ∷ y ∷ []) n flag b = let e : 2 ≡ 5 = ap (λ (t : List ℕ). length t) b.1 in absurd (omega (arith, e))
five_long (x ∷ y ∷ z ∷ []) n flag b = let e : 3 ≡ 5 = ap (λ (t : List ℕ). length t) b.1 in absurd (omega (arith, e))
five_long (x ∷ y ∷ z ∷ w ∷ []) n flag b = let e : 4 ≡ 5 = ap (λ (t : List ℕ). length t) b.1 in absurd (omega (arith, e))
five_long (x ∷ y ∷ z ∷ w ∷ v ∷ s) n flag b = omega arith

begins-judged : (s : List ℕ) (n flag : ℕ) → Begins n flag s → front s ≡ judged n flag (drop 5 s)
begins-judged [] n flag b = absurd (omega (arith, five_long [] n flag b))
begins-judged (x ∷ []) n flag b = absurd (omega (arith, five_long (x ∷ []) n flag b))
begins-judged (x ∷ y ∷ []) n flag b = absurd (omega (arith, five_long (x ∷ y ∷ []) n flag b))
begins-judged (x ∷ y ∷ z ∷ []) n flag b = absurd (omega (arith, five_long (x ∷ y ∷ z ∷ []) n flag b))
begins-judged (x ∷ y ∷ z ∷ w ∷ []) n flag b = absurd (omega (arith, five_long (x ∷ y ∷ z ∷ w ∷ []) n flag b))
begins-judged (x ∷ y ∷ z ∷ w ∷ v ∷ s) n flag b =
    let head_is : x ∷ y ∷ z ∷ w ∷ [] ≡ to_be_bytes w32 n = ap (λ (t : List ℕ). take 4 t) b.1 in
    let flag_is : v ≡ flag = ap (λ (t : List ℕ). get_or t 4 0) b.1 in
    let number : from_be_bytes w32 (x ∷ y ∷ z ∷ w ∷ []) ≡ n = ap (λ (t : List ℕ). from_be_bytes w32 t) head_is ∙ from_be_bytes-to_be_bytes_4 n (omega (arith, b.0)) in
    front-judged (x ∷ y ∷ z ∷ w ∷ v ∷ s) (omega arith) ∙ ap (λ (k : ℕ). judged k v s) number ∙ ap (λ (k : ℕ). judged n k s) flag_is

pub said-front : (s : List ℕ) (fault : Fault) (place : ℕ) → Says fault place s → front s ≡ Faulty fault place
said-front s (TooLong n) place (flag, b, long, p) =
    begins-judged s n flag b ∙ judged-too_long n flag (drop 5 s) long ∙ ap (λ (k : ℕ). Faulty (TooLong n) k) (sym p)
said-front s Compressed place (n, b, short, p) =
    begins-judged s n 1 b ∙ judged-compressed n 1 (drop 5 s) short refl ∙ ap (λ (k : ℕ). Faulty Compressed k) (sym p)
said-front s (BadFlag flag) place (n, b, short, high, p) =
    begins-judged s n flag b ∙ judged-flagged n flag (drop 5 s) short (λ e. absurd (omega (arith, e, high))) (λ e. absurd (omega (arith, e, high)))
    ∙ ap (λ (k : ℕ). Faulty (BadFlag flag) k) (sym p)
said-front s (BadFlusher byte) place (n, b, short, p, there, is, other) =
    let five_more : 5 + n ≡ place = omega (arith, p) in
    let last : get_or (drop 5 s) n 0 ≡ byte = get_or-drop 5 s n 0 ∙ ap (λ (k : ℕ). get_or s k 0) five_more ∙ is in
    let far : n < length (drop 5 s) = omega (arith, p, there, length-drop 5 s) in
    begins-judged s n 0 b ∙ judged-not_flushed n 0 (drop 5 s) short refl far (λ e. other (sym last ∙ e))
    ∙ ap (λ (k : ℕ). Faulty (BadFlusher k) (n + 5)) last ∙ ap (λ (k : ℕ). Faulty (BadFlusher byte) k) (sym p)

pub begun-front : (s : List ℕ) → IsBegun s → front s ≡ Part
begun-front s (inl few) = front-short s few
begun-front s (inr (n, b, short, few)) =
    let fewer : length (drop 5 s) ≤ n = omega (arith, few, length-drop 5 s) in
    begins-judged s n 0 b ∙ judged-part n 0 (drop 5 s) short refl fewer

no_end : (xs : List ℕ) → xs ++ 10 ∷ [] ≡ [] → ⊥
no_end [] e = cc
no_end (x ∷ xs) e = cc

-- ---- a part is a front of a frame

-- bytes that begin a frame, with what is missing of the data as noughts
pub begun-frame : (s : List ℕ) (n : ℕ) → Begins n 0 s → n ≤ longest → length s < n + 6
    → (body missing : List ℕ) × (length body ≤ longest) × (missing ≢ []) × (frame_of body ≡ s ++ missing)
unfolding frame_of
begun-frame s n b short few =
    let zeros : List ℕ = replicate (n - length (drop 5 s)) 0 in
    let many : length zeros ≡ n - length (drop 5 s) = length-replicate {A = ℕ} (n - length (drop 5 s)) 0 in
    let long : 5 ≤ length s = five_long s n 0 b in
    let size : length (drop 5 s ++ zeros) ≡ n = omega (arith, few, long, many, length-drop 5 s, length-append (drop 5 s) zeros) in
    let s_is : s ≡ (to_be_bytes w32 n ++ 0 ∷ []) ++ drop 5 s = sym (take-append-drop 5 s) ∙ ap (λ (t : List ℕ). t ++ drop 5 s) b.1 in
    let head_is : to_be_bytes w32 (length (drop 5 s ++ zeros)) ≡ to_be_bytes w32 n = ap (λ (m : ℕ). to_be_bytes w32 m) size in
    let tail_is : (drop 5 s ++ zeros) ++ 10 ∷ [] ≡ drop 5 s ++ (zeros ++ 10 ∷ []) = append_assoc (drop 5 s) zeros (10 ∷ []) in (
      drop 5 s ++ zeros,
      zeros ++ 10 ∷ [],
      subst (λ (m : ℕ). m ≤ longest) (sym size) short,
      no_end zeros,
      ap (λ (t : List ℕ). t ++ 0 ∷ ((drop 5 s ++ zeros) ++ 10 ∷ [])) head_is
          ∙ ap (λ (t : List ℕ). to_be_bytes w32 n ++ 0 ∷ t) tail_is
          ∙ sym (ap (λ (t : List ℕ). t ++ (zeros ++ 10 ∷ [])) s_is),
    )

pub part-frame : (s : List ℕ) → IsBytes s → front s ≡ Part → 5 ≤ length s
    → (body missing : List ℕ) × (length body ≤ longest) × (missing ≢ []) × (frame_of body ≡ s ++ missing)
part-frame s fits h long = elim (front-begun s fits h) [
  | inl few ↦ absurd (omega (arith, few, long))
  | inr begun ↦ begun-frame s begun.0 begun.1 begun.2 begun.3
]
