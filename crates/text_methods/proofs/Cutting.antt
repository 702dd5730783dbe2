-- What the relations on texts ask for is one answer, that of the functions.
use Rattle.std.proofs.Common.{◌≡◌, ◌↔◌, ℕ, ◌<◌, Bool, true, false, not, List, [], ◌∷◌, ◌++◌, Option, Some, None, length, IsTrue, refl, sym, ap, subst, ◌∙◌, ⊎_elim, if◌then◌else◌, arith}
use Rattle.std.proofs.lemmas.Bool.{and_parts, cases_order}
use Rattle.py_strs.specs.Searching.{BeginsWith, EndsIn, IsLeastPlace}
use Rattle.py_strs.specs.Spaces.{is_space, all_spaces, no_spaces}
use Rattle.py_strs.specs.Splitting.{IsSplit, IsWords, is_spaced}
use Rattle.py_strs.proofs.OneSplit.{one_split}
use Rattle.language_rules.specs.TextFunctions.{begins_with, ends_in, least_place, pieces, words, words_with, lengthened}
use Rattle.language_rules.proofs.TextLaws as laws

-- ---- beginnings and ends

same_truth : {P : Type 0} (a b : Bool) → (IsTrue a ↔ P) → (IsTrue b ↔ P) → a ≡ b
same_truth true true h k = refl
same_truth true false h k = sym (k.1 (h.0 refl))
same_truth false true h k = h.1 (k.0 refl)
same_truth false false h k = refl

pub one_beginning : (text part : List ℕ) (b : Bool) → (IsTrue b ↔ BeginsWith text part) → b ≡ begins_with text part
one_beginning text part b h = same_truth b (begins_with text part) h (laws.beginnings text part)

pub one_end : (text part : List ℕ) (b : Bool) → (IsTrue b ↔ EndsIn text part) → b ≡ ends_in text part
one_end text part b h = same_truth b (ends_in text part) h (laws.ends text part)

-- ---- places

same_place : (text part : List ℕ) (o p : Option ℕ) → IsLeastPlace text part o → IsLeastPlace text part p → o ≡ p
same_place text part None None h k = refl
same_place text part None (Some b) h k = absurd (h b k.0)
same_place text part (Some a) None h k = absurd (k a h.0)
same_place text part (Some a) (Some b) h k = ap (λ (n : ℕ). Some n) (⊎_elim (λ is. is) (λ other. ⊎_elim (λ less. absurd (k.1 a less h.0)) (λ less. absurd (h.1 b less k.0)) other) (cases_order a b))

pub one_place : (text part : List ℕ) (o : Option ℕ) → IsLeastPlace text part o → o ≡ least_place text part
one_place text part o h = same_place text part o (least_place text part) h (laws.least text part)

-- ---- pieces

pub one_cut : (sep text : List ℕ) (ps : List (List ℕ)) → 0 < length sep → IsSplit sep text ps → ps ≡ pieces sep text
one_cut sep text ps some h = one_split sep text ps (pieces sep text) h (laws.split sep text some)

-- ---- words

by_space : (c : ℕ) (cs : List ℕ) (ws : List (List ℕ)) (b : Bool) → is_space c ≡ b → words_with c cs ws ≡ (if b then ws else (if is_spaced cs then (c ∷ []) ∷ ws else lengthened c ws))
by_space c cs ws b h = ap (λ (x : Bool). if x then ws else (if is_spaced cs then (c ∷ []) ∷ ws else lengthened c ws)) h

off : (b : Bool) → not b ≡ true → b ≡ false
off false h = refl
off true h = cc

-- white space in front adds no word
without_gap : (gap rest : List ℕ) → all_spaces gap ≡ true → words (gap ++ rest) ≡ words rest
without_gap [] rest h = refl
without_gap (c ∷ gap) rest h =
    let parts = and_parts (is_space c) (all_spaces gap) h in
    by_space c (gap ++ rest) (words (gap ++ rest)) true parts.0 ∙ without_gap gap rest parts.1

spaces_alone : (text : List ℕ) → all_spaces text ≡ true → words text ≡ []
spaces_alone [] h = refl
spaces_alone (c ∷ cs) h =
    let parts = and_parts (is_space c) (all_spaces cs) h in
    by_space c cs (words cs) true parts.0 ∙ spaces_alone cs parts.1

-- a word, and then a text that is empty or begins with white space
first_word : (c : ℕ) (cs rest : List ℕ) → no_spaces (c ∷ cs) ≡ true → is_spaced rest ≡ true → words ((c ∷ cs) ++ rest) ≡ (c ∷ cs) ∷ words rest
first_word c [] rest h spaced =
    let parts = and_parts (not (is_space c)) true h in
    by_space c rest (words rest) false (off (is_space c) parts.0) ∙ ap (λ (x : Bool). if x then (c ∷ []) ∷ words rest else lengthened c (words rest)) spaced
first_word c (d ∷ ds) rest h spaced =
    let parts = and_parts (not (is_space c)) (no_spaces (d ∷ ds)) h in
    let next = and_parts (not (is_space d)) (no_spaces ds) parts.1 in
    let ws = words ((d ∷ ds) ++ rest) in
    by_space c ((d ∷ ds) ++ rest) ws false (off (is_space c) parts.0)
    ∙ ap (λ (x : Bool). if x then (c ∷ []) ∷ ws else lengthened c ws) (off (is_space d) next.0)
    ∙ ap (lengthened c) (first_word d ds rest parts.1 spaced)

pub one_list : (text : List ℕ) (ws : List (List ℕ)) → IsWords text ws → ws ≡ words text
one_list text [] h = sym (spaces_alone text h)
one_list text ([] ∷ ws) (gap, rest, e, spaces, some, word, spaced, others) = absurd (omega (arith, some))
one_list text ((c ∷ cs) ∷ ws) (gap, rest, e, spaces, some, word, spaced, others) =
    ap (λ (l : List (List ℕ)). (c ∷ cs) ∷ l) (one_list rest ws others)
    ∙ sym (ap words e ∙ without_gap gap ((c ∷ cs) ++ rest) spaces ∙ first_word c cs rest word spaced)
