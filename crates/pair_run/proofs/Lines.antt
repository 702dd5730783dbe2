-- A line is read exactly where it is spelled so.
use Rattle.std.proofs.Common.{◌≡◌, ℕ, ℤ, ◌⊎◌, inl, inr, ◌≤◌, ◌++◌, List, [], ◌∷◌, Option, Some, None, Bool, true, false, arith, ap, sym, ◌∙◌, refl, take, drop, codes, cond, ◌&&◌, nat_le, subst, ◌+◌, ◌<◌, ◌==◌, length, not, suc, nat_lt, position, map, ◌-◌, append_assoc, length-drop}
use Rattle.std.proofs.Math.Seq.{take-length, drop-length}
use Rattle.std.proofs.lemmas.List.{map-append}
use Rattle.std.specs.List.{position_or_len}
use Rattle.std.proofs.lemmas.Bool.{leb-true, le-leb, ltb-true, ltb-false, and_parts}
use Rattle.std.proofs.lemmas.List.{take-append-drop}
use Rattle.std.proofs.lemmas.Option.{cond_some}
use Rattle.std.proofs.lemmas.Slice.Eq.{bytes_eq-Decides}
use Rattle.std.specs.Fmt.{signed_decimal}
use Rattle.std.specs.Int.{is_in_range}
use Rattle.std.specs.Str.{bytes_eq}
use Rattle.pair_run.proofs.Numbers.{number_text_of, number_text_reads}
use Rattle.pair_run.specs.declared.scripts.Binding.{Binding}
use Rattle.pair_run.specs.Scripts.{IsLetter, IsNumber, IsBinding, question_line, binding_line, quoted_letter, read_letter, read_binding, bound, number_text, lines_of, onto_first}

is_letter : (c : ℕ) → is_in_range 97 122 c ≡ true → IsLetter c
is_letter c h = let parts = and_parts (nat_le 97 c) (nat_le c 122) h in (leb-true 97 c parts.0, leb-true c 122 parts.1)

letter_is : (c : ℕ) → IsLetter c → is_in_range 97 122 c ≡ true
letter_is c h = ap (λ t. t && nat_le c 122) (le-leb 97 c h.0) ∙ le-leb c 122 h.1

-- a test that decides whether an option is there
cond_gives : {A : Type 0} (b : Bool) (x : Option A) (y : A) → cond b x None ≡ Some y → (b ≡ true) × (x ≡ Some y)
cond_gives true x y h = (refl, h)
cond_gives false x y h = cc

quoted_letter_gives : (quoted : List ℕ) (letter : ℕ) → quoted_letter quoted ≡ Some letter → IsLetter letter × (quoted ≡ letter ∷ codes "\"])")
quoted_letter_gives [] letter h = cc
quoted_letter_gives (c ∷ rest) letter h =
    let parts = cond_some (is_in_range 97 122 c && bytes_eq rest (codes "\"])")) c letter h in
    let tests = and_parts (is_in_range 97 122 c) (bytes_eq rest (codes "\"])")) parts.0 in
    let closed : rest ≡ codes "\"])" = (bytes_eq-Decides rest (codes "\"])")).0 tests.1 in
    (subst IsLetter parts.1 (is_letter c tests.0), ap (λ m. m ∷ rest) parts.1 ∙ ap (λ ms. letter ∷ ms) closed)

pub read_letter_gives : (line : List ℕ) (letter : ℕ) → read_letter line ≡ Some letter → IsLetter letter × (line ≡ question_line letter)
read_letter_gives line letter h =
    let parts = cond_gives (bytes_eq (take 22 line) (codes "print(conn.namespace[\"")) (quoted_letter (drop 22 line)) letter h in
    let opening : take 22 line ≡ codes "print(conn.namespace[\"" = (bytes_eq-Decides (take 22 line) (codes "print(conn.namespace[\"")).0 parts.0 in
    let quoted = quoted_letter_gives (drop 22 line) letter parts.1 in
    (quoted.0, sym (take-append-drop 22 line) ∙ ap (λ ms. ms ++ drop 22 line) opening ∙ ap (λ ms. codes "print(conn.namespace[\"" ++ ms) quoted.1)

pub read_letter-question_line : (letter : ℕ) → IsLetter letter → read_letter (question_line letter) ≡ Some letter
read_letter-question_line letter h = ap (λ t. cond (t && true) (Some letter) None) (letter_is letter h)

bound_gives : (letter : ℕ) (o : Option ℤ) (b : Binding) → bound letter o ≡ Some b → (letter ≡ b.letter) × (o ≡ Some b.number)
bound_gives letter None b h = cc
bound_gives letter (Some n) b h =
    let made : Binding = record { letter = letter; number = n } in
    let e : made ≡ b = cc in
    (ap (λ (m : Binding). m.letter) e, ap (λ (m : Binding). Some m.number) e)

pub read_binding_gives : (line : List ℕ) (b : Binding) → read_binding line ≡ Some b → IsBinding b × (line ≡ binding_line b)
read_binding_gives [] b h = cc
read_binding_gives (p ∷ []) b h = cc
read_binding_gives (p ∷ q ∷ []) b h = cc
read_binding_gives (p ∷ q ∷ r ∷ []) b h = cc
read_binding_gives (p ∷ q ∷ r ∷ s ∷ digits) b h =
    let parts = cond_gives (is_in_range 97 122 p && bytes_eq (q ∷ r ∷ s ∷ []) (codes " = ")) (bound p (number_text digits)) b h in
    let tests = and_parts (is_in_range 97 122 p) (bytes_eq (q ∷ r ∷ s ∷ []) (codes " = ")) parts.0 in
    let middle : (q ∷ r ∷ s ∷ []) ≡ codes " = " = (bytes_eq-Decides (q ∷ r ∷ s ∷ []) (codes " = ")).0 tests.1 in
    let made = bound_gives p (number_text digits) b parts.1 in
    let number = number_text_reads digits b.number made.1 in
    ((subst IsLetter made.0 (is_letter p tests.0), number.0), ap (λ m. m ∷ q ∷ r ∷ s ∷ digits) made.0 ∙ ap (λ ms. b.letter ∷ ms ++ digits) middle ∙ ap (λ ms. b.letter ∷ codes " = " ++ ms) number.1)

number_again : (z : ℤ) → IsNumber z → number_text (signed_decimal z) ≡ Some z
number_again z h = ap (λ y. number_text (signed_decimal y)) h.1 ∙ number_text_of h.0 h.2 ∙ ap Some (sym h.1)

pub read_binding-binding_line : (b : Binding) → IsBinding b → read_binding (binding_line b) ≡ Some b
read_binding-binding_line b h = ap (λ t. cond (t && true) (bound b.letter (number_text (signed_decimal b.number))) None) (letter_is b.letter h.0) ∙ ap (bound b.letter) (number_again b.number h.1)

abbrev pub is_feed : ℕ → Bool
is_feed c = c == 10

feed_step : (b : Bool) (n c : ℕ) (text : List ℕ) → (n < length text → lines_of text ≡ take n text ∷ lines_of (drop (n + 1) text)) → cond (not b) (1 + n) 0 < length (c ∷ text)
    → cond b ([] ∷ lines_of text) (onto_first c (lines_of text)) ≡ take (cond (not b) (1 + n) 0) (c ∷ text) ∷ lines_of (drop (cond (not b) (1 + n) 0 + 1) (c ∷ text))
feed_step true n c text more h = refl
feed_step false n c text more h =
    let front : suc n ≡ 1 + n = omega arith in
    let back : suc (n + 1) ≡ 1 + n + 1 = omega arith in
    let inside : n < length text = omega (arith, h) in
    ap (onto_first c) (more inside) ∙ ap (λ k. take k (c ∷ text) ∷ lines_of (drop (n + 1) text)) front ∙ ap (λ k. take (1 + n) (c ∷ text) ∷ lines_of (drop k (c ∷ text))) back

last_step : (b : Bool) (n c : ℕ) (text : List ℕ) → (0 < length text → lines_of text ≡ text ∷ []) → length (c ∷ text) ≤ cond (not b) (1 + n) 0 → cond b ([] ∷ lines_of text) (onto_first c (lines_of text)) ≡ (c ∷ text) ∷ []
last_step true n c text more h = absurd (omega (arith, h))
last_step false n c [] more h = refl
last_step false n c (d ∷ text) more h = ap (onto_first c) (more (omega arith))

-- with a line feed ahead, the first line is what stands before it
pub lines_of-feed : (text : List ℕ) → position_or_len is_feed text < length text → lines_of text ≡ take (position_or_len is_feed text) text ∷ lines_of (drop (position_or_len is_feed text + 1) text)
lines_of-feed [] h = absurd (omega arith)
lines_of-feed (c ∷ text) h = feed_step (is_feed c) (position_or_len is_feed text) c text (lines_of-feed text) h

past : (b : Bool) (n c : ℕ) (text : List ℕ) → length (c ∷ text) ≤ cond (not b) (1 + n) 0 → length text ≤ n
past true n c text h = absurd (omega (arith, h))
past false n c text h = omega (arith, h)

-- with none, the whole text is one line
pub lines_of-last : (text : List ℕ) → length text ≤ position_or_len is_feed text → 0 < length text → lines_of text ≡ text ∷ []
lines_of-last [] h g = absurd (omega arith)
lines_of-last (c ∷ text) h g = last_step (is_feed c) (position_or_len is_feed text) c text (lines_of-last text (past (is_feed c) (position_or_len is_feed text) c text h)) h

-- all that stands from a place on
rest_from : (text : List ℕ) (at : ℕ) → take (length text - at) (drop at text) ≡ drop at text
rest_from text at = ap (λ k. take k (drop at text)) (sym (length-drop at text)) ∙ take-length (drop at text)

pub split_at_feed : (text : List ℕ) (end : ℕ) → Some end ≡ position is_feed text → lines_of text ≡ take end text ∷ lines_of (take (length text - (end + 1)) (drop (end + 1) text))
split_at_feed text end h =
    let parts = cond_some (nat_lt (position_or_len is_feed text) (length text)) (position_or_len is_feed text) end (sym h) in
    lines_of-feed text (ltb-true (position_or_len is_feed text) (length text) parts.0)
    ∙ ap (λ k. take k text ∷ lines_of (drop (k + 1) text)) parts.1 ∙ ap (λ ms. take end text ∷ lines_of ms) (sym (rest_from text (end + 1)))

cond_none : (b : Bool) (n : ℕ) → None ≡ cond b (Some n) None → b ≡ false
cond_none true n h = cc
cond_none false n h = refl

pub split_at_end : (text : List ℕ) → None ≡ position is_feed text → 0 < length text → lines_of text ≡ text ∷ lines_of (take (length text - length text) (drop (length text) text))
split_at_end text h some =
    let missing : nat_lt (position_or_len is_feed text) (length text) ≡ false = cond_none (nat_lt (position_or_len is_feed text) (length text)) (position_or_len is_feed text) h in
    lines_of-last text (ltb-false (position_or_len is_feed text) (length text) missing) some ∙ ap (λ ms. text ∷ lines_of ms) (sym (rest_from text (length text) ∙ drop-length text))

-- a line more of those that are read
pub lines_more : {X : Type 0} (f : X → List ℕ) (all rest others : List (List ℕ)) (line : List ℕ) (xs : List X) (x : X) → all ≡ map f xs ++ rest → rest ≡ line ∷ others → line ≡ f x
    → all ≡ map f (xs ++ x ∷ []) ++ others
lines_more f all rest others line xs x h g e =
    h ∙ ap (λ ms. map f xs ++ ms) (g ∙ ap (λ m. m ∷ others) e) ∙ sym (append_assoc (map f xs) (f x ∷ []) others) ∙ ap (λ ms. ms ++ others) (sym (map-append f xs (x ∷ [])))

-- a line of which nothing is read binds nothing
pub binds_nothing : (line : List ℕ) → None ≡ read_binding line → (b : Binding) → IsBinding b → line ≡ binding_line b → ⊥
binds_nothing line h b fits e = let read : read_binding line ≡ Some b = ap read_binding e ∙ read_binding-binding_line b fits in cc

-- a line of which nothing is read asks for nothing
pub asks_nothing : (line : List ℕ) → None ≡ read_letter line → (letter : ℕ) → IsLetter letter → line ≡ question_line letter → ⊥
asks_nothing line h letter fits e = let read : read_letter line ≡ Some letter = ap read_letter e ∙ read_letter-question_line letter fits in cc
