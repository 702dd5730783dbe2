-- Steps of cutting a text.
use Rattle.std.proofs.Common.{◌≡◌, ℕ, ◌+◌, ◌<◌, Bool, true, false, not, List, [], ◌∷◌, ◌++◌, Some, None, length, map, take, drop, refl, sym, ap, subst, ◌∙◌, arith, append_assoc, append-nil, length-append, take-append-drop, string_bytes, String}
use Rattle.std.proofs.lemmas.Bool.{and_from}
use Rattle.std.proofs.lemmas.List.{map-append}
use Rattle.std.proofs.lemmas.Str.{chars-append, chars-nil, encodes-chars, IsUtf8-take, IsUtf8-drop, chars_past_char, chars_from_encodes}
use Rattle.std.specs.Str.{chars, IsUtf8, NonePass}
use Rattle.std.specs.Str.Pattern.{FindsBy, MatchBeginsAt}
use lib.Utf8.{encodes}
use Rattle.py_strs.specs.Joining.{characters, joined}
use Rattle.py_strs.specs.Searching.{IsLeastPlace}
use Rattle.py_strs.specs.Spaces.{is_space, all_spaces, no_spaces, begins_bare}
use Rattle.py_strs.specs.Splitting.{IsSplit, IsWords, is_spaced}
use Rattle.py_strs.proofs.Places.{CutAt}
use Rattle.py_strs.proofs.Positions.{few}
use Rattle.py_strs.proofs.Stripped.{bare, spaces_join}

-- ---- separators

pub cut_once : (sep text p rest : List ℕ) (ps : List (List ℕ)) → text ≡ p ++ (sep ++ rest) → IsLeastPlace text sep (Some (length p)) → IsSplit sep rest ps → IsSplit sep text (p ∷ ps)
cut_once sep text p rest [] e least h = absurd h
cut_once sep text p rest (q ∷ ps) e least h = (rest, e, least, h)

pub pushed : {A : Type 0} (made : List (String A)) (p : String A) (ps : List (List ℕ)) → map characters made ++ (characters p ∷ ps) ≡ map characters (made ++ (p ∷ [])) ++ ps
pushed made p ps = sym (ap (λ (l : List (List ℕ)). l ++ ps) (map-append characters made (p ∷ [])) ∙ append_assoc (map characters made) (characters p ∷ []) ps)

-- ---- words

pub with_gap : (gap text : List ℕ) (ps : List (List ℕ)) → all_spaces gap ≡ true → IsWords text ps → IsWords (gap ++ text) ps
with_gap gap text [] g h = spaces_join gap text g h
with_gap gap text (w ∷ ws) g (more, rest, e, spaces, some, word, spaced, others) =
    (gap ++ more, rest, ap (λ (l : List ℕ). gap ++ l) e ∙ sym (append_assoc gap more (w ++ rest)), spaces_join gap more g spaces, some, word, spaced, others)

none_spaces : (cs : List ℕ) → NonePass is_space cs → no_spaces cs ≡ true
none_spaces [] h = refl
none_spaces (c ∷ cs) h = and_from (not (is_space c)) (no_spaces cs) (bare c h.0) (none_spaces cs h.1)

pub word_all : (Q : (ℕ → Bool) → Type 0) (s : List ℕ) → IsUtf8 s → ((k : ℕ → Bool) → Q k → FindsBy k s None) → Q is_space → no_spaces (chars s) ≡ true
word_all Q s us h q =
    let none = h is_space q in
    subst (λ (l : List ℕ). no_spaces l ≡ true) (chars_from_encodes none.0 s us none.1) (none_spaces none.0 none.2)

pub record WordCut (s a b : List ℕ) : Type 0 where
  pub text : IsUtf8 a
  pub size : length a + length b ≡ length s
  pub split : chars s ≡ chars a ++ chars b
  pub word : no_spaces (chars a) ≡ true
  pub rest : is_spaced (chars b) ≡ true

pub word_found : (Q : (ℕ → Bool) → Type 0) (s a b : List ℕ) (at : ℕ) → IsUtf8 s → a ≡ take at s → b ≡ drop at s → MatchBeginsAt (λ t o. (k : ℕ → Bool) → Q k → FindsBy k t o) s at → Q is_space → WordCut s a b
word_found Q s a b at us ea eb (j, finds, order, cut, past) q =
    let one = finds is_space q in
    let front : IsUtf8 (take at s) = IsUtf8-take s at us cut in
    let back : IsUtf8 (drop at s) = IsUtf8-drop s at us cut in
    let c : ℕ = one.1.0 in
    let first : chars (drop at s) ≡ c ∷ chars (drop j s) = chars_past_char (drop at s) (drop j s) c back one.1.2.split in
    let none : no_spaces (chars (take at s)) ≡ true = subst (λ (l : List ℕ). no_spaces l ≡ true) (chars_from_encodes one.0.0 (take at s) front one.0.1) (none_spaces one.0.0 one.0.2) in
    let space : is_spaced (chars (drop at s)) ≡ true = subst (λ (l : List ℕ). is_spaced l ≡ true) (sym first) one.1.1 in
    let whole : chars s ≡ chars (take at s) ++ chars (drop at s) = ap chars (sym (take-append-drop at s)) ∙ chars-append (take at s) (drop at s) front in
    let bytes : length (take at s) + length (drop at s) ≡ length s = sym (length-append (take at s) (drop at s)) ∙ ap length (take-append-drop at s) in
    record {
      text = subst IsUtf8 (sym ea) front;
      size = ap (λ (l : List ℕ). length l + length b) ea ∙ ap (λ (l : List ℕ). length (take at s) + length l) eb ∙ bytes;
      split = whole ∙ ap (λ (l : List ℕ). chars l ++ chars (drop at s)) (sym ea) ∙ ap (λ (l : List ℕ). chars a ++ chars l) (sym eb);
      word = subst (λ (l : List ℕ). no_spaces (chars l) ≡ true) (sym ea) none;
      rest = subst (λ (l : List ℕ). is_spaced (chars l) ≡ true) (sym eb) space;
    }

both : (b : Bool) → b ≡ true → not b ≡ true → ⊥
both true e h = cc
both false e h = cc

some_at : (whole word rest : List ℕ) → 0 < length whole → whole ≡ word ++ rest → begins_bare whole ≡ true → is_spaced rest ≡ true → 0 < length word
some_at whole [] [] l e b r = absurd (let none : length whole ≡ 0 = ap length e in omega (arith, none, l))
some_at whole [] (c ∷ rest) l e b r = absurd (both (is_space c) r (subst (λ (x : List ℕ). begins_bare x ≡ true) e b))
some_at whole (c ∷ word) rest l e b r = omega arith

pub characters_some : (s : List ℕ) → IsUtf8 s → 0 < length s → 0 < length (chars s)
characters_some s us l = some_of (chars s) (subst (λ (x : List ℕ). 0 < length x) (sym (encodes-chars s us)) l) where
  some_of : (cs : List ℕ) → 0 < length (encodes cs) → 0 < length cs
  some_of [] h = h
  some_of (c ∷ cs) h = omega arith

pub word_some : (s a b : List ℕ) → IsUtf8 s → 0 < length s → begins_bare (chars s) ≡ true → WordCut s a b → 0 < length (chars a)
word_some s a b us l bs cut = some_at (chars s) (chars a) (chars b) (characters_some s us l) cut.split bs cut.rest

pub falls : (s a b : List ℕ) → WordCut s a b → 0 < length (chars a) → length b < length s
falls s a b cut l = omega (arith, l, few a cut.text, cut.size)

pub cut_word : (s a b : List ℕ) (rest gap : List ℕ) (ps : List (List ℕ)) → chars s ≡ chars a ++ chars b → no_spaces (chars a) ≡ true → is_spaced (chars b) ≡ true → 0 < length (chars a) → chars b ≡ gap ++ rest → all_spaces gap ≡ true → IsWords rest ps → IsWords (chars s) (chars a ∷ ps)
cut_word s a b rest gap ps split word spaced some e g h = ([], chars b, split, refl, some, word, spaced, subst (λ (l : List ℕ). IsWords l ps) (sym e) (with_gap gap rest ps g h))

-- ---- the loops

pub step_cut : {A : Type 0} (sep s rest a b left : List ℕ) (made new : List (String A)) (piece : String A) → CutAt rest sep a b → left ≡ drop (length sep) b → string_bytes piece ≡ a → new ≡ made ++ (piece ∷ [])
    → ((ps : List (List ℕ)) → IsSplit (chars sep) (chars rest) ps → IsSplit (chars sep) (chars s) (map characters made ++ ps)) → (ps : List (List ℕ)) → IsSplit (chars sep) (chars left) ps → IsSplit (chars sep) (chars s) (map characters new ++ ps)
step_cut {A} sep s rest a b left made new piece cut is bytes grown so_far ps h =
    let one = cut.pieces left is in
    let split : chars rest ≡ characters piece ++ (chars sep ++ chars left) = one.0 ∙ ap (λ (l : List ℕ). chars l ++ (chars sep ++ chars left)) (sym bytes) in
    let least : IsLeastPlace (chars rest) (chars sep) (Some (length (characters piece))) = subst (λ (l : List ℕ). IsLeastPlace (chars rest) (chars sep) (Some (length (chars l)))) (sym bytes) one.1 in
    let all = so_far (characters piece ∷ ps) (cut_once (chars sep) (chars rest) (characters piece) (chars left) ps split least h) in
    subst (λ (l : List (String A)). IsSplit (chars sep) (chars s) (map characters l ++ ps)) (sym grown) (subst (IsSplit (chars sep) (chars s)) (pushed made piece ps) all)

pub end_cut : {A : Type 0} (sep s rest : List ℕ) (made new : List (String A)) (piece : String A) → IsLeastPlace (chars rest) (chars sep) None → string_bytes piece ≡ rest → new ≡ made ++ (piece ∷ [])
    → ((ps : List (List ℕ)) → IsSplit (chars sep) (chars rest) ps → IsSplit (chars sep) (chars s) (map characters made ++ ps)) → IsSplit (chars sep) (chars s) (map characters new)
end_cut {A} sep s rest made new piece none bytes grown so_far =
    let all = so_far (characters piece ∷ []) (ap chars (sym bytes), none) in
    subst (IsSplit (chars sep) (chars s)) (pushed made piece [] ∙ ap (λ (l : List (String A)). map characters l ++ []) (sym grown) ∙ append-nil (map characters new)) all

pub step_word : {A : Type 0} (s rest a b left gap : List ℕ) (made new : List (String A)) (word : String A) → chars rest ≡ chars a ++ chars b → no_spaces (chars a) ≡ true → is_spaced (chars b) ≡ true → 0 < length (chars a)
    → chars b ≡ gap ++ chars left → all_spaces gap ≡ true → string_bytes word ≡ a → new ≡ made ++ (word ∷ [])
    → ((ps : List (List ℕ)) → IsWords (chars rest) ps → IsWords (chars s) (map characters made ++ ps)) → (ps : List (List ℕ)) → IsWords (chars left) ps → IsWords (chars s) (map characters new ++ ps)
step_word {A} s rest a b left gap made new word split bare spaced some e g bytes grown so_far ps h =
    let one : IsWords (chars rest) (characters word ∷ ps) = subst (λ (l : List ℕ). IsWords (chars rest) (chars l ∷ ps)) (sym bytes) (cut_word rest a b (chars left) gap ps split bare spaced some e g h) in
    let all = so_far (characters word ∷ ps) one in
    subst (λ (l : List (String A)). IsWords (chars s) (map characters l ++ ps)) (sym grown) (subst (IsWords (chars s)) (pushed made word ps) all)

pub end_words : {A : Type 0} (s rest : List ℕ) (made : List (String A)) → rest ≡ [] → ((ps : List (List ℕ)) → IsWords (chars rest) ps → IsWords (chars s) (map characters made ++ ps)) → IsWords (chars s) (map characters made)
end_words s rest made none so_far =
    let end : all_spaces (chars rest) ≡ true = ap (λ (l : List ℕ). all_spaces (chars l)) none ∙ ap all_spaces chars-nil in
    subst (IsWords (chars s)) (append-nil (map characters made)) (so_far [] end)

pub start_words : {A : Type 0} (s rest gap : List ℕ) (made : List (String A)) → made ≡ [] → chars s ≡ gap ++ chars rest → all_spaces gap ≡ true → (ps : List (List ℕ)) → IsWords (chars rest) ps → IsWords (chars s) (map characters made ++ ps)
start_words {A} s rest gap made none e g ps h =
    subst (λ (l : List (String A)). IsWords (chars s) (map characters l ++ ps)) (sym none) (subst (λ (l : List ℕ). IsWords l ps) (sym e) (with_gap gap (chars rest) ps g h))

pub rejoined : (sep text : List ℕ) (ps : List (List ℕ)) → IsSplit sep text ps → joined sep ps ≡ text
rejoined sep text [] h = absurd h
rejoined sep text (p ∷ []) h = append-nil p ∙ sym h.0
rejoined sep text (p ∷ q ∷ ps) (rest, e, least, h) = ap (λ (l : List ℕ). p ++ (sep ++ l)) (rejoined sep rest (q ∷ ps) h) ∙ sym e
