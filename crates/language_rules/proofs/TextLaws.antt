-- The functions on texts give what their relations ask for.
use Rattle.std.proofs.Common.{◌≡◌, ◌↔◌, ℕ, zero, suc, ◌+◌, ◌<◌, ◌≤◌, Bool, true, false, not, ◌==◌, List, [], ◌∷◌, ◌++◌, Option, Some, None, option_map, length, take, drop, reverse, slice_get, nat_lt, ℤ, pos, negsuc, ◌+ℤ◌, ltb-false, IsTrue, refl, sym, ap, ap₂, subst, ◌∙◌, arith, length-append, if◌then◌else◌, eqb-true, eq-eqb}
use Rattle.std.proofs.lemmas.Bool.{and_from, and_parts}
use Rattle.std.specs.Option.{option_and_then}
use Rattle.std.proofs.lemmas.Option.{slice_get_past}
use Rattle.std.proofs.lemmas.List.{reverse-append, reverse-reverse, take_at}
use Rattle.std.proofs.Math.Seq.{drop-append_seam, drop-append-add}
use Rattle.py_strs.specs.Searching.{BeginsWith, EndsIn, StandsAt, IsLeastPlace, character_behind, character_at}
use Rattle.py_strs.specs.Spaces.{is_space, all_spaces, no_spaces, begins_bare, IsStripped}
use Rattle.py_strs.specs.Splitting.{IsSplit, IsWords, is_spaced}
use Rattle.language_rules.specs.TextFunctions.{begins_with, ends_in, least_place, pieces_within, pieces, lengthened, words, without_front, stripped, below, place_among}

contrary : {A : Type 0} (b : Bool) → b ≡ true → b ≡ false → A
contrary true h k = cc
contrary false h k = cc

-- ---- beginnings and ends

begun : (text part : List ℕ) → begins_with text part ≡ true → BeginsWith text part
begun text [] h = (text, refl)
begun [] (p ∷ ps) h = cc
begun (c ∷ cs) (p ∷ ps) h =
    let parts = and_parts (c == p) (begins_with cs ps) h in
    let more = begun cs ps parts.1 in
    let same : c ≡ p = eqb-true c p parts.0 in
    (more.0, ap (λ (x : ℕ). x ∷ cs) same ∙ ap (λ (l : List ℕ). p ∷ l) more.1)

begins : (text part : List ℕ) → BeginsWith text part → begins_with text part ≡ true
begins text [] h = refl
begins [] (p ∷ ps) (rest, e) = cc
begins (c ∷ cs) (p ∷ ps) (rest, e) =
    let same : c ≡ p = cc in
    let tails : cs ≡ ps ++ rest = cc in
    and_from (c == p) (begins_with cs ps) (eq-eqb c p same) (begins cs ps (rest, tails))

pub beginnings : (text part : List ℕ) → IsTrue (begins_with text part) ↔ BeginsWith text part
beginnings text part = (begun text part, begins text part)

ended : (text part : List ℕ) → ends_in text part ≡ true → EndsIn text part
ended text part h =
    let (rest, e) = begun (reverse text) (reverse part) h in
    (reverse rest, sym (reverse-reverse text) ∙ ap reverse e ∙ reverse-append (reverse part) rest ∙ ap (λ (l : List ℕ). reverse rest ++ l) (reverse-reverse part))

pub ends : (text part : List ℕ) → IsTrue (ends_in text part) ↔ EndsIn text part
ends text part = (ended text part, λ (front, e). begins (reverse text) (reverse part) (reverse front, ap reverse e ∙ reverse-append front part))

-- ---- the least place

at_first : (text part : List ℕ) → StandsAt text part 0 → BeginsWith text part
at_first text part ([], rest, e, size) = (rest, e)
at_first text part (c ∷ front, rest, e, size) = cc

later : (c : ℕ) (cs part : List ℕ) (k : ℕ) → StandsAt (c ∷ cs) part (suc k) → StandsAt cs part k
later c cs part k ([], rest, e, size) = cc
later c cs part k (d ∷ front, rest, e, size) = (front, rest, cc, cc)

further : (c : ℕ) (cs part : List ℕ) (k : ℕ) → StandsAt cs part k → StandsAt (c ∷ cs) part (suc k)
further c cs part k (front, rest, e, size) = (c ∷ front, rest, ap (λ (l : List ℕ). c ∷ l) e, ap suc size)

first : (text part : List ℕ) → begins_with text part ≡ true → IsLeastPlace text part (Some 0)
first text part h =
    let (rest, e) = begun text part h in
    (([], rest, e, refl), λ j less. absurd (omega arith))

not_first : (text part : List ℕ) → begins_with text part ≡ false → ¬ (StandsAt text part 0)
not_first text part h s = contrary (begins_with text part) (begins text part (at_first text part s)) h

by_test : (text part : List ℕ) (o : Option ℕ) (b : Bool) → begins_with text part ≡ b → (begins_with text part ≡ false → IsLeastPlace text part o) → IsLeastPlace text part (if b then Some 0 else o)
by_test text part o true h others = first text part h
by_test text part o false h others = others h

in_nothing : (part : List ℕ) (k : ℕ) → begins_with [] part ≡ false → ¬ (StandsAt [] part k)
in_nothing part k h ([], rest, e, size) = not_first [] part h ([], rest, e, refl)
in_nothing part k h (c ∷ front, rest, e, size) = cc

one_further : (c : ℕ) (cs part : List ℕ) (o : Option ℕ) → begins_with (c ∷ cs) part ≡ false → IsLeastPlace cs part o → IsLeastPlace (c ∷ cs) part (option_map suc o)
one_further c cs part None h none = nowhere_here
  where
    nowhere_here : (k : ℕ) → ¬ (StandsAt (c ∷ cs) part k)
    nowhere_here zero s = not_first (c ∷ cs) part h s
    nowhere_here (suc k) s = none k (later c cs part k s)
one_further c cs part (Some n) h (there, before) = (further c cs part n there, none_before)
  where
    none_before : (k : ℕ) → k < suc n → ¬ (StandsAt (c ∷ cs) part k)
    none_before zero less s = not_first (c ∷ cs) part h s
    none_before (suc k) less s = before k (omega arith) (later c cs part k s)

pub least : (text part : List ℕ) → IsLeastPlace text part (least_place text part)
least [] part = by_test [] part None (begins_with [] part) refl (λ h k. in_nothing part k h)
least (c ∷ cs) part = by_test (c ∷ cs) part (option_map suc (least_place cs part)) (begins_with (c ∷ cs) part) refl (λ h. one_further c cs part (least_place cs part) h (least cs part))

-- ---- splitting

cut_once : (sep text p rest : List ℕ) (ps : List (List ℕ)) → text ≡ p ++ (sep ++ rest) → IsLeastPlace text sep (Some (length p)) → IsSplit sep rest ps → IsSplit sep text (p ∷ ps)
cut_once sep text p rest [] e at h = absurd h
cut_once sep text p rest (q ∷ ps) e at h = (rest, e, at, h)

empty_holds_none : (sep : List ℕ) → 0 < length sep → IsLeastPlace [] sep None
empty_holds_none sep some k (front, rest, e, size) =
    let sizes : 0 ≡ length front + (length sep + length rest) = ap length e ∙ length-append front (sep ++ rest) ∙ ap (λ (n : ℕ). length front + n) (length-append sep rest) in
    absurd (omega arith)

cut : (n : ℕ) (sep text : List ℕ) → 0 < length sep → length text ≤ suc n → ((rest : List ℕ) → length rest ≤ n → IsSplit sep rest (pieces_within n sep rest))
    → (o : Option ℕ) → IsLeastPlace text sep o → IsSplit sep text (elim o [ Some k ↦ take k text ∷ pieces_within n sep (drop (k + length sep) text) | None ↦ text ∷ [] ])
cut n sep text some short others None h = (refl, h)
cut n sep text some short others (Some k) ((front, rest, e, size), before) =
    let piece : take k text ≡ front = ap (take k) e ∙ take_at front (sep ++ rest) k size in
    let left : drop (k + length sep) text ≡ rest =
    ap (λ (m : ℕ). drop (m + length sep) text) (sym size) ∙ ap (drop (length front + length sep)) e ∙ drop-append-add front (sep ++ rest) (length sep) ∙ drop-append_seam sep rest in
    let sizes : length text ≡ length front + (length sep + length rest) = ap length e ∙ length-append front (sep ++ rest) ∙ ap (λ (m : ℕ). length front + m) (length-append sep rest) in
    let at : IsLeastPlace text sep (Some (length (take k text))) = subst (λ (m : ℕ). IsLeastPlace text sep (Some m)) (sym (ap length piece ∙ size)) ((front, rest, e, size), before) in
    let whole : text ≡ take k text ++ (sep ++ drop (k + length sep) text) = e ∙ ap₂ (λ (a b : List ℕ). a ++ (sep ++ b)) (sym piece) (sym left) in
    let fewer : length (drop (k + length sep) text) ≤ n = subst (λ (m : ℕ). m ≤ n) (sym (ap length left)) (omega arith) in
    cut_once sep text (take k text) (drop (k + length sep) text) (pieces_within n sep (drop (k + length sep) text)) whole at (others (drop (k + length sep) text) fewer)

splits : (n : ℕ) (sep text : List ℕ) → 0 < length sep → length text ≤ n → IsSplit sep text (pieces_within n sep text)
splits zero sep [] some short = (refl, empty_holds_none sep some)
splits zero sep (c ∷ text) some short = absurd (omega arith)
splits (suc n) sep text some short = cut n sep text some short (λ rest fewer. splits n sep rest some fewer) (least_place text sep) (least text sep)

pub split : (sep text : List ℕ) → 0 < length sep → IsSplit sep text (pieces sep text)
split sep text some = splits (length text) sep text some (omega arith)

-- ---- words

-- white space in front changes no words
gap_first : (c : ℕ) (cs : List ℕ) (ws : List (List ℕ)) → is_space c ≡ true → IsWords cs ws → IsWords (c ∷ cs) ws
gap_first c cs [] h all = and_from (is_space c) (all_spaces cs) h all
gap_first c cs (w ∷ ws) h (gap, rest, e, spaces, some, word, spaced, others) =
    (c ∷ gap, rest, ap (λ (l : List ℕ). c ∷ l) e, and_from (is_space c) (all_spaces gap) h spaces, some, word, spaced, others)

no_space : (c : ℕ) (cs : List ℕ) → is_space c ≡ false → no_spaces cs ≡ true → no_spaces (c ∷ cs) ≡ true
no_space c cs h word = and_from (not (is_space c)) (no_spaces cs) (ap not h) word

-- a character before a text that begins with a word
word_longer : (c : ℕ) (cs : List ℕ) (ws : List (List ℕ)) → is_space c ≡ false → is_spaced cs ≡ false → IsWords cs ws → IsWords (c ∷ cs) (lengthened c ws)
word_longer c [] ws h bare all = cc
word_longer c (d ∷ ds) [] h bare all = contrary (is_space d) (and_parts (is_space d) (all_spaces ds) all).0 bare
word_longer c (d ∷ ds) (w ∷ ws) h bare ([], rest, e, spaces, some, word, spaced, others) =
    ([], rest, ap (λ (l : List ℕ). c ∷ l) e, refl, omega arith, no_space c w h word, spaced, others)
word_longer c (d ∷ ds) (w ∷ ws) h bare (g ∷ gap, rest, e, spaces, some, word, spaced, others) =
    let same : d ≡ g = cc in
    contrary (is_space d) (ap is_space same ∙ (and_parts (is_space g) (all_spaces gap) spaces).0) bare

by_space : (c : ℕ) (cs : List ℕ) (ws : List (List ℕ)) (b d : Bool) → is_space c ≡ b → is_spaced cs ≡ d → IsWords cs ws → IsWords (c ∷ cs) (if b then ws else (if d then (c ∷ []) ∷ ws else lengthened c ws))
by_space c cs ws true d h spaced all = gap_first c cs ws h all
by_space c cs ws false true h spaced all = ([], cs, refl, refl, omega arith, no_space c [] h refl, spaced, all)
by_space c cs ws false false h bare all = word_longer c cs ws h bare all

pub all_words : (text : List ℕ) → IsWords text (words text)
all_words [] = refl
all_words (c ∷ cs) = by_space c cs (words cs) (is_space c) (is_spaced cs) refl refl (all_words cs)

-- ---- stripping

record Front (text : List ℕ) : Type 0 where
  gap : List ℕ
  split : text ≡ gap ++ without_front text
  spaces : all_spaces gap ≡ true
  starts : begins_bare (without_front text) ≡ true

space_first : (c : ℕ) (cs : List ℕ) (b : Bool) → is_space c ≡ b → Front cs → (gap : List ℕ) × (c ∷ cs ≡ gap ++ (if b then without_front cs else c ∷ cs)) × (all_spaces gap ≡ true) × (begins_bare (if b then without_front cs else c ∷ cs) ≡ true)
space_first c cs true h rest = (c ∷ rest.gap, ap (λ (l : List ℕ). c ∷ l) rest.split, and_from (is_space c) (all_spaces rest.gap) h rest.spaces, rest.starts)
space_first c cs false h rest = ([], refl, refl, ap not h)

front : (text : List ℕ) → Front text
front [] = record { gap = []; split = refl; spaces = refl; starts = refl }
front (c ∷ cs) =
    let (gap, split, spaces, starts) = space_first c cs (is_space c) refl (front cs) in
    record { gap = gap; split = split; spaces = spaces; starts = starts }

spaces_joined : (xs ys : List ℕ) → all_spaces xs ≡ true → all_spaces ys ≡ true → all_spaces (xs ++ ys) ≡ true
spaces_joined [] ys h k = k
spaces_joined (x ∷ xs) ys h k = let parts = and_parts (is_space x) (all_spaces xs) h in and_from (is_space x) (all_spaces (xs ++ ys)) parts.0 (spaces_joined xs ys parts.1 k)

spaces_reversed : (xs : List ℕ) → all_spaces xs ≡ true → all_spaces (reverse xs) ≡ true
spaces_reversed [] h = refl
spaces_reversed (x ∷ xs) h =
    let parts = and_parts (is_space x) (all_spaces xs) h in
    let joined = spaces_joined (reverse xs) (x ∷ []) (spaces_reversed xs parts.1) (and_from (is_space x) true parts.0 refl) in
    subst (λ (l : List ℕ). all_spaces l ≡ true) (sym (reverse-append (x ∷ []) xs)) joined

still_bare : (cs back : List ℕ) → begins_bare (cs ++ back) ≡ true → begins_bare cs ≡ true
still_bare [] back h = refl
still_bare (c ∷ cs) back h = h

pub strips : (text : List ℕ) → IsStripped text (stripped text)
strips text =
    let first = front text in
    let last = front (reverse (without_front text)) in
    let whole : without_front text ≡ stripped text ++ reverse last.gap =
    sym (reverse-reverse (without_front text)) ∙ ap reverse last.split ∙ reverse-append last.gap (without_front (reverse (without_front text))) in
    record {
      front = first.gap;
      back = reverse last.gap;
      split = first.split ∙ ap (λ (l : List ℕ). first.gap ++ l) whole;
      front_spaces = first.spaces;
      back_spaces = spaces_reversed last.gap last.spaces;
      starts = still_bare (stripped text) (reverse last.gap) (subst (λ (l : List ℕ). begins_bare l ≡ true) whole first.starts);
      stops = ap begins_bare (reverse-reverse (without_front (reverse (without_front text)))) ∙ last.starts;
    }

-- ---- positions

within_length : (cs : List ℕ) (n : ℕ) (b : Bool) → nat_lt n (length cs) ≡ b → slice_get cs n ≡ option_and_then (slice_get cs) (if b then Some n else None)
within_length cs n true h = refl
within_length cs n false h = slice_get_past cs n (ltb-false n (length cs) h)

place_behind : (cs : List ℕ) (z : ℤ) → character_behind cs z ≡ option_and_then (slice_get cs) (below (length cs) z)
place_behind cs (pos n) = within_length cs n (nat_lt n (length cs)) refl
place_behind cs (negsuc n) = refl

pub positions : (cs : List ℕ) (z : ℤ) → character_at cs z ≡ option_and_then (slice_get cs) (place_among (length cs) z)
positions cs (pos n) = place_behind cs (pos n)
positions cs (negsuc n) = place_behind cs (negsuc n +ℤ pos (length cs))
