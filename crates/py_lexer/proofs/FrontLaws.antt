-- What stands in front of a text, by its bytes.
use Rattle.std.proofs.Common.{◌≡◌, ◌∙◌, ◌<◌, ◌≤◌, ◌+◌, ◌==◌, ◌&&◌, ◌||◌, ℕ, suc, List, [], ◌∷◌, length, take, Bool, true, false, refl, sym, ap, arith}
use Rattle.std.specs.Prelude.{if◌then◌else◌}
use Rattle.std.specs.Str.{bytes_eq}
use Rattle.std.proofs.lemmas.Slice.Eq.{bytes_eq-Decides}
use Rattle.py_lexer.specs.Spellings.{front_size, begins, first_in_front, is_one_of, signs, sign_size}
use Rattle.std.proofs.lemmas.Grind.{common_steps}
use Rattle.py_lexer.specs.Slices.{all_pass}
use Rattle.py_lexer.specs.Lines.{feeds}

-- ---- the bytes in front that pass a test

pub front_within : (p : ℕ → Bool) (text : List ℕ) → front_size p text ≤ length text
front_within p [] = omega arith
front_within p (c ∷ cs) = by_test (p c) (front_within p cs)
  where
    by_test : (b : Bool) → front_size p cs ≤ length cs → (if b then 1 + front_size p cs else 0) ≤ suc (length cs)
    by_test true h = omega (arith, h)
    by_test false h = omega arith

pub front_passes : (p : ℕ → Bool) (text : List ℕ) → all_pass p (take (front_size p text) text) ≡ true
front_passes p [] = refl
front_passes p (c ∷ cs) = by_test (p c) refl (front_passes p cs)
  where
    by_test : (b : Bool) → p c ≡ b → all_pass p (take (front_size p cs) cs) ≡ true → all_pass p (take (if b then 1 + front_size p cs else 0) (c ∷ cs)) ≡ true
    by_test true e h = let one : 1 + front_size p cs ≡ suc (front_size p cs) = omega arith in ap (λ (n : ℕ). all_pass p (take n (c ∷ cs))) one ∙ ap (λ (b : Bool). b && all_pass p (take (front_size p cs) cs)) e ∙ h
    by_test false e h = refl

-- a text that passes a test which a line feed fails has no line feed
pub no_feeds : (p : ℕ → Bool) (s : List ℕ) → p 10 ≡ false → all_pass p s ≡ true → feeds s ≡ 0
no_feeds p [] low h = refl
no_feeds p (c ∷ cs) low h = by_test (c == 10) (p c) refl refl h (λ k. no_feeds p cs low k)
  where
    by_test : (b d : Bool) → (c == 10) ≡ b → p c ≡ d → d && all_pass p cs ≡ true → (all_pass p cs ≡ true → feeds cs ≡ 0) → (if b then 1 + feeds cs else feeds cs) ≡ 0
    by_test b false e is k rest = cc
    by_test false true e is k rest = rest k
    by_test true true e is k rest = let same : c ≡ 10 = grind arith in let passes : p 10 ≡ true = sym (ap p same) ∙ is in cc

-- ---- signs

word_begins : (text word : List ℕ) → begins text word ≡ true → take (length word) text ≡ word
word_begins text word h = sym ((bytes_eq-Decides word (take (length word) text)).0 h)

word_is : (word : List ℕ) → bytes_eq word word ≡ true
word_is word = (bytes_eq-Decides word word).1 refl

pub or_left : (a b : Bool) → a ≡ true → a || b ≡ true
or_left a b h = rw h refl

pub or_right : (a b : Bool) → b ≡ true → a || b ≡ true
or_right true b h = refl
or_right false b h = h

-- the first of the words that stands in front is one of them
pub word_in_front : (words : List (List ℕ)) (text : List ℕ) → 0 < first_in_front words text → is_one_of words (take (first_in_front words text) text) ≡ true
word_in_front [] text h = absurd (omega (arith, h))
word_in_front (word ∷ words) text h = by_test (begins text word) refl h (λ k. word_in_front words text k)
  where
    by_test : (b : Bool) → begins text word ≡ b → 0 < (if b then length word else first_in_front words text) → (0 < first_in_front words text → is_one_of words (take (first_in_front words text) text) ≡ true)
        → is_one_of (word ∷ words) (take (if b then length word else first_in_front words text) text) ≡ true
    by_test true e k rest = or_left (bytes_eq (take (length word) text) word) (is_one_of words (take (length word) text)) (ap (λ (t : List ℕ). bytes_eq t word) (word_begins text word e) ∙ word_is word)
    by_test false e k rest = or_right (bytes_eq (take (first_in_front words text) text) word) (is_one_of words (take (first_in_front words text) text)) (rest k)

pub sign_is_one : (text : List ℕ) → 0 < sign_size text → is_one_of signs (take (sign_size text) text) ≡ true
unfolding sign_size
sign_is_one text h = word_in_front signs text h

word_within : (words : List (List ℕ)) (text : List ℕ) → first_in_front words text ≤ length text
word_within [] text = omega arith
word_within (word ∷ words) text = by_test (begins text word) refl (word_within words text)
  where
    by_test : (b : Bool) → begins text word ≡ b → first_in_front words text ≤ length text → (if b then length word else first_in_front words text) ≤ length text
    by_test true e h = let long : length (take (length word) text) ≡ length word = ap length (word_begins text word e) in let short : length (take (length word) text) ≤ length text = grind (arith, common_steps) in omega (arith, long, short)
    by_test false e h = h

pub sign_within : (text : List ℕ) → sign_size text ≤ length text
unfolding sign_size
sign_within text = word_within signs text

are_calm : List (List ℕ) → Bool
are_calm [] = true
are_calm (word ∷ words) = (feeds word == 0) && are_calm words

word_calm : (words : List (List ℕ)) (s : List ℕ) → are_calm words ≡ true → is_one_of words s ≡ true → feeds s ≡ 0
unfolding are_calm
word_calm [] s h e = cc
word_calm (word ∷ words) s h e = by_test (feeds word == 0) (are_calm words) (bytes_eq s word) refl refl refl h e (λ k o. word_calm words s k o)
  where
    by_test : (a b d : Bool) → (feeds word == 0) ≡ a → are_calm words ≡ b → bytes_eq s word ≡ d → a && b ≡ true → d || is_one_of words s ≡ true → (are_calm words ≡ true → is_one_of words s ≡ true → feeds s ≡ 0) → feeds s ≡ 0
    by_test false b d x y z all one rest = cc
    by_test true false d x y z all one rest = cc
    by_test true true false x y z all one rest = rest y one
    by_test true true true x y z all one rest = let none : feeds word ≡ 0 = grind arith in ap feeds ((bytes_eq-Decides s word).0 z) ∙ none

pub sign_calm : (s : List ℕ) → is_one_of signs s ≡ true → feeds s ≡ 0
unfolding are_calm
sign_calm s h = word_calm signs s refl h
