-- The sign in front is the longest.
use Rattle.std.proofs.Common.{◌≡◌, ◌≤◌, ◌∙◌, ℕ, List, [], ◌∷◌, length, Bool, true, false, not, nat_lt, ◌&&◌, ◌||◌, ◌⊎◌, inl, inr, refl, sym, ap, arith}
use Rattle.std.proofs.lemmas.Bool.{and_parts}
use Rattle.std.specs.Prelude.{if◌then◌else◌, IsTrue}
use Rattle.std.specs.Str.{bytes_eq}
use Rattle.std.proofs.lemmas.Slice.Eq.{bytes_eq-Decides}
use Rattle.py_lexer.specs.Spellings.{begins, is_one_of, first_in_front, signs, sign_size}

abbrev pub all_within : ℕ → List (List ℕ) → Bool
all_within n [] = true
all_within n (word ∷ words) = not (nat_lt n (length word)) && all_within n words

-- none is longer than the one before it
abbrev pub are_falling : List (List ℕ) → Bool
are_falling [] = true
are_falling (word ∷ words) = all_within (length word) words && are_falling words

same_word : (s word : List ℕ) → bytes_eq s word ≡ true → s ≡ word
same_word s word e = (bytes_eq-Decides s word).0 e

-- one of the words: the first, or one of the others
is_first_or_later : (a b : Bool) → a || b ≡ true → (a ≡ true) ⊎ (b ≡ true)
is_first_or_later true b e = inl refl
is_first_or_later false b e = inr e

within_of : (n : ℕ) (words : List (List ℕ)) (s : List ℕ) → all_within n words ≡ true → is_one_of words s ≡ true → length s ≤ n
within_of n [] s h e = cc
within_of n (word ∷ words) s h e =
    let split = and_parts (not (nat_lt n (length word))) (all_within n words) h in
    by_place (is_first_or_later (bytes_eq s word) (is_one_of words s) e) split.0 (λ o. within_of n words s split.1 o)
  where
    by_place : (bytes_eq s word ≡ true) ⊎ (is_one_of words s ≡ true) → not (nat_lt n (length word)) ≡ true → (is_one_of words s ≡ true → length s ≤ n) → length s ≤ n
    by_place (inl same) low rest = let is : length s ≡ length word = ap (λ (t : List ℕ). length t) (same_word s word same) in let low_word : length word ≤ n = grind arith in omega (arith, is, low_word)
    by_place (inr other) low rest = rest other

apart : {n m : ℕ} → true ≡ false → n ≤ m
apart e = cc

pub longest_in_front : (words : List (List ℕ)) (text s : List ℕ) → are_falling words ≡ true → is_one_of words s ≡ true → begins text s ≡ true → length s ≤ first_in_front words text
longest_in_front [] text s f e b = cc
longest_in_front (word ∷ words) text s f e b =
    let split = and_parts (all_within (length word) words) (are_falling words) f in
    by_front (begins text word) refl (is_first_or_later (bytes_eq s word) (is_one_of words s) e) (λ o. within_of (length word) words s split.0 o) (λ o. longest_in_front words text s split.1 o b)
  where
    by_front : (here : Bool) → begins text word ≡ here → (bytes_eq s word ≡ true) ⊎ (is_one_of words s ≡ true) → (is_one_of words s ≡ true → length s ≤ length word) → (is_one_of words s ≡ true → length s ≤ first_in_front words text)
        → length s ≤ (if here then length word else first_in_front words text)
    by_front true at (inl same) short rest = let is : length s ≡ length word = ap (λ (t : List ℕ). length t) (same_word s word same) in omega (arith, is)
    by_front true at (inr other) short rest = short other
    by_front false at (inl same) short rest = let is : begins text s ≡ begins text word = ap (λ (t : List ℕ). begins text t) (same_word s word same) in apart (sym b ∙ is ∙ at)
    by_front false at (inr other) short rest = rest other

pub longest_sign : (text s : List ℕ) → IsTrue (is_one_of signs s) → IsTrue (begins text s) → length s ≤ sign_size text
unfolding sign_size
longest_sign text s e b = longest_in_front signs text s refl e b
