-- Places in texts, from bytes to characters and back.
use Rattle.std.proofs.Common.{◌≡◌, ◌↔◌, ℕ, zero, suc, ◌+◌, ◌-◌, ◌<◌, ◌≤◌, Bool, true, false, List, [], ◌∷◌, ◌++◌, Option, Some, None, length, take, drop, slice_index, MatchBool, IsTrue, refl, sym, ap, subst, ◌∙◌, arith, append_assoc, take-append-drop, length-append, length-take-le}
use Rattle.std.proofs.Math.Seq.{drop-append_seam, take-append_seam}
use Rattle.std.proofs.lemmas.Str.{chars-append, encodes-append, encodes-chars, IsUtf8-take, IsUtf8-drop, IsUtf8-past_char, IsCharBoundary-start, IsCharBoundary-from_drop, IsCharBoundary-at_seam, length-encode, len_utf8_bounds}
use Rattle.std.specs.Str.{chars, IsUtf8, IsCharBoundary}
use Rattle.std.specs.Str.Pattern.{FindsTextPrefix, FindsTextSuffix, HasPrefixMatch, HasSuffixMatch}
use Rattle.memchr.specs.Find.{OccursAt, FindsNeedle}
use Rattle.memchr.proofs.lemmas.MatchLemmas.{OccursAt-from_part, OccursAt-split}
use lib.Utf8.{encode, encodes}
use Rattle.py_strs.specs.Searching.{BeginsWith, EndsIn, IsLeastPlace}

-- what follows a text within a text is a text
rest_utf8 : (cs rest : List ℕ) → IsUtf8 (encodes cs ++ rest) → IsUtf8 rest
rest_utf8 [] rest u = u
rest_utf8 (c ∷ cs) rest u = rest_utf8 cs rest (IsUtf8-past_char (encodes (c ∷ cs) ++ rest) (encodes cs ++ rest) c u (append_assoc (encode c) (encodes cs) rest))

pub after : (part rest : List ℕ) → IsUtf8 part → IsUtf8 (part ++ rest) → IsUtf8 rest
after part rest up u = rest_utf8 up.0 rest (subst (λ (p : List ℕ). IsUtf8 (p ++ rest)) (sym up.1.1) u)

-- where a text stands among characters, its bytes stand among theirs
pub spelled : (s part front rest : List ℕ) → IsUtf8 s → IsUtf8 part → chars s ≡ front ++ (chars part ++ rest) → s ≡ encodes front ++ (part ++ encodes rest)
spelled s part front rest us up e =
    sym (encodes-chars s us) ∙ ap encodes e ∙ encodes-append front (chars part ++ rest)
    ∙ ap (λ (l : List ℕ). encodes front ++ l) (encodes-append (chars part) rest ∙ ap (λ (p : List ℕ). p ++ encodes rest) (encodes-chars part up))

pub begins : (r : Bool) (s part : List ℕ) → IsUtf8 s → IsUtf8 part → MatchBool r (HasPrefixMatch (FindsTextPrefix part) s) (FindsTextPrefix part s None) → IsTrue r ↔ BeginsWith (chars s) (chars part)
begins true s part us up (n, (is, split, cut), at) = (λ _. (chars (drop n s), ap chars split ∙ chars-append part (drop n s) up), λ _. refl)
begins false s part us up lacks = (λ (e : IsTrue false). cc, λ (rest, e). absurd (lacks (encodes rest) (spelled s part [] rest us up e)))

pub ends : (r : Bool) (s part : List ℕ) → IsUtf8 s → IsUtf8 part → MatchBool r (HasSuffixMatch (FindsTextSuffix part) s) (FindsTextSuffix part s None) → IsTrue r ↔ EndsIn (chars s) (chars part)
ends true s part us up (n, (is, split, cut), inside, at) =
    let front : List ℕ = take (length s - n) s in
    (λ _. (chars front, ap chars split ∙ chars-append front part (IsUtf8-take s (length s - n) us at)), λ _. refl)
ends false s part us up lacks = (λ (e : IsTrue false). cc, λ (front, e). absurd (lacks (encodes front) (sym (encodes-chars s us) ∙ ap encodes e ∙ encodes-append front (chars part) ∙ ap (λ (l : List ℕ). encodes front ++ l) (encodes-chars part up))))

-- of two fronts of a list, the shorter is a front of the longer
longer : (a b x y : List ℕ) → a ++ x ≡ b ++ y → length b < length a → (c : ℕ) × (m : List ℕ) × (a ≡ b ++ (c ∷ m))
longer [] b x y e l = absurd (omega arith)
longer (c ∷ a) [] x y e l = (c, a, refl)
longer (c ∷ a) (d ∷ b) x y e l =
    let same : c ≡ d = cc in
    let tails : a ++ x ≡ b ++ y = cc in
    let more = longer a b x y tails (omega arith) in
    (more.0, more.1, ap (λ (z : ℕ). z ∷ a) same ∙ ap (λ (l : List ℕ). d ∷ l) more.2)

encodes_grow : (b m : List ℕ) (c : ℕ) → length (encodes b) < length (encodes (b ++ (c ∷ m)))
encodes_grow b m c =
    let whole = ap length (encodes-append b (c ∷ m)) ∙ length-append (encodes b) (encodes (c ∷ m)) in
    let tail = length-append (encode c) (encodes m) in
    omega (arith, whole, tail, length-encode c, len_utf8_bounds c)

occurs : (hay a part b : List ℕ) → hay ≡ a ++ (part ++ b) → OccursAt hay part (length a)
occurs hay a part b e =
    let size : length hay ≡ length a + (length part + length b) = ap length e ∙ length-append a (part ++ b) ∙ ap (λ (n : ℕ). length a + n) (length-append part b) in
    let rest : drop (length a) hay ≡ part ++ b = ap (drop (length a)) e ∙ drop-append_seam a (part ++ b) in
    OccursAt-from_part hay part (length a) (omega arith) (ap (take (length part)) rest ∙ take-append_seam part b)

-- a text within a text begins where a character does, unless it is empty
starts : (s part : List ℕ) (at : ℕ) → IsUtf8 part → OccursAt s part at → 0 < length part → IsCharBoundary s at
starts s part at up h some =
    let fits = h.fits in
    let lead = (IsCharBoundary-start part up).1 some in
    let first : slice_index s (at + 0) ≡ slice_index part 0 = h.reads 0 some in
    let there : slice_index s at ≡ slice_index part 0 = subst (λ (n : ℕ). slice_index s n ≡ slice_index part 0) (omega arith) first in
    (omega arith, λ inside high. subst (λ (b : ℕ). 192 ≤ b) (sym there) (lead (subst (λ (b : ℕ). 128 ≤ b) there high)))

least_start : (s part : List ℕ) (at : ℕ) → IsUtf8 s → IsUtf8 part → FindsNeedle s part 0 (Some at) → IsCharBoundary s at
least_start s part zero us up h = IsCharBoundary-start s us
least_start s [] (suc n) us up h = absurd (h.0.before 0 (omega arith) (omega arith) (occurs s [] [] s refl))
least_start s (b ∷ part) (suc n) us up h = starts s (b ∷ part) (suc n) up h.1 (omega arith)

-- the search's clause, of the texts themselves
pub searched : (s part hay needle : List ℕ) (r o : Option ℕ) → hay ≡ s → needle ≡ part → r ≡ o → FindsNeedle hay needle 0 r → FindsNeedle s part 0 o
searched s part hay needle r o hs hp is h =
    subst (λ (x : Option ℕ). FindsNeedle s part 0 x) is (subst (λ (p : List ℕ). FindsNeedle s p 0 r) hp (subst (λ (t : List ℕ). FindsNeedle t needle 0 r) hs h))

-- what a search of the bytes found
pub record Found (s part : List ℕ) (at : ℕ) : Type 0 where
  pub cut : IsCharBoundary s at
  pub past : IsCharBoundary s (at + length part)
  pub split : chars s ≡ chars (take at s) ++ (chars part ++ chars (drop (at + length part) s))
  pub least : IsLeastPlace (chars s) (chars part) (Some (length (chars (take at s))))

pub found : (s part : List ℕ) (at : ℕ) → IsUtf8 s → IsUtf8 part → FindsNeedle s part 0 (Some at) → Found s part at
found s part at us up h =
    let cut = least_start s part at us up h in
    let front : List ℕ = take at s in
    let rest : List ℕ = drop (at + length part) s in
    let tail : drop at s ≡ part ++ rest = OccursAt-split s part at h.1 in
    let whole : s ≡ front ++ (part ++ rest) = sym (take-append-drop at s) ∙ ap (λ (l : List ℕ). front ++ l) tail in
    let front_text : IsUtf8 front = IsUtf8-take s at us cut in
    let rest_text : IsUtf8 rest = after part rest up (subst IsUtf8 tail (IsUtf8-drop s at us cut)) in
    let split : chars s ≡ chars front ++ (chars part ++ chars rest) = ap chars whole ∙ chars-append front (part ++ rest) front_text ∙ ap (λ (l : List ℕ). chars front ++ l) (chars-append part rest up) in
    let size : length front ≡ at = length-take-le at s cut.0 in
    record {
      cut = cut;
      past = IsCharBoundary-from_drop s (at + length part) h.1.fits rest_text;
      split = split;
      least = (
        (chars front, chars rest, split, refl),
        λ j less (before, later, e, is).
            let more = longer (chars front) before (chars part ++ chars rest) (chars part ++ later) (sym split ∙ e) (subst (λ (n : ℕ). n < length (chars front)) (sym is) less) in
            let grown : length (encodes before) < length (encodes (chars front)) = subst (λ (l : List ℕ). length (encodes before) < length (encodes l)) (sym more.2) (encodes_grow before more.1 more.0) in
            let bytes : length (encodes (chars front)) ≡ length front = ap length (encodes-chars front front_text) in
            h.0.before (length (encodes before)) (omega arith) (omega (arith, grown, bytes, size)) (occurs s (encodes before) part (encodes later) (spelled s part before later us up e)),
      );
    }

pub nowhere : (s part : List ℕ) → IsUtf8 s → IsUtf8 part → FindsNeedle s part 0 None → IsLeastPlace (chars s) (chars part) None
nowhere s part us up h k (before, later, e, is) =
    let whole = spelled s part before later us up e in
    let here = occurs s (encodes before) part (encodes later) whole in
    let fits = here.fits in
    h (length (encodes before)) (omega arith) (omega arith) here

-- what a cut at such a place leaves
pub record CutAt (s part a b : List ℕ) : Type 0 where
  pub past : IsCharBoundary b (length part)
  pub pieces : (rest : List ℕ) → rest ≡ drop (length part) b → (chars s ≡ chars a ++ (chars part ++ chars rest)) × IsLeastPlace (chars s) (chars part) (Some (length (chars a)))

pub cut_at : (s part a b : List ℕ) (at : ℕ) → IsUtf8 s → IsUtf8 part → FindsNeedle s part 0 (Some at) → a ≡ take at s → b ≡ drop at s → CutAt s part a b
cut_at s part a b at us up h ea eb =
    let all = found s part at us up h in
    let after_part : List ℕ = drop (at + length part) s in
    let tail : b ≡ part ++ after_part = eb ∙ OccursAt-split s part at h.1 in
    let after_text : IsUtf8 after_part = after part after_part up (subst IsUtf8 (OccursAt-split s part at h.1) (IsUtf8-drop s at us all.cut)) in
    record {
      past = IsCharBoundary-at_seam b part after_part tail after_text;
      pieces = λ rest is.
          let same : rest ≡ after_part = is ∙ ap (drop (length part)) tail ∙ drop-append_seam part after_part in
          let split : chars s ≡ chars a ++ (chars part ++ chars rest) =
          all.split ∙ ap (λ (l : List ℕ). chars l ++ (chars part ++ chars after_part)) (sym ea) ∙ ap (λ (l : List ℕ). chars a ++ (chars part ++ chars l)) (sym same) in
          (split, subst (λ (l : List ℕ). IsLeastPlace (chars s) (chars part) (Some (length (chars l)))) (sym ea) all.least);
    }
