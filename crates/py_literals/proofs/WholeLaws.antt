-- Whole literals and their values.
use Rattle.std.proofs.Common.{◌≡◌, ◌∙◌, ◌<◌, ◌≤◌, ◌⊎◌, length, drop, get_or, ◌+◌, ◌*◌, ◌/◌, ◌%◌, ◌==◌, ◌&&◌, not, nat_lt, ℕ, List, [], ◌∷◌, ◌++◌, Bool, true, false, Option, Some, None, option_map, map, encode_utf8, encode_utf8_all, inl, inr, refl, sym, ap, arith}
use Rattle.std.proofs.lemmas.Bool.{and_from, and_parts}
use Rattle.std.specs.Prelude.{if◌then◌else◌}
use Rattle.std.specs.Char.{digit_char, IsScalar, InScalarRange}
use Rattle.std.specs.Str.{all_scalars}
use Rattle.std.proofs.Math.Utf8.{scalar, scalar_cases}
use Rattle.py_literals.proofs.Codes.{same_test, no_surrogate}
use Rattle.std.proofs.lemmas.Bool.Decides.{nat_tests}
use Rattle.py_lexer.specs.Items.{Item, IsLiteral, may_stand, all_may_stand, body, opening}
use Rattle.py_lexer.specs.Literals.{is_hex, is_surrogate}
use Rattle.py_lexer.specs.Spellings.{is_quote, hex_digit, hex_natural, count_in, is_some}
use Rattle.py_literals.specs.Laws.{StandsFor, hex_of, code_of, escaped_bytes, escaped_text, all_below}
use Rattle.py_literals.specs.Reading.{items_of}
use Rattle.py_literals.specs.Values.{all_stand_for, body_value, text_literal_value, bytes_literal_value}
use Rattle.py_literals.proofs.ReadLaws.{items_read, items_spell}

text_behind : (q : ℕ) (rest : List ℕ) → is_quote q ≡ true → text_literal_value (q ∷ rest) ≡ body_value false q rest
unfolding text_literal_value
text_behind q rest h = rw h refl

bytes_behind : (q : ℕ) (rest : List ℕ) → is_quote q ≡ true → bytes_literal_value (98 ∷ q ∷ rest) ≡ body_value true q rest
unfolding bytes_literal_value
bytes_behind q rest h = rw h refl

body_is : (b : Bool) (q : ℕ) (items : List Item) → is_quote q ≡ true → all_may_stand b q items ≡ true → body_value b q (body q items) ≡ Some (all_stand_for b items)
body_is b q items h s = ap (option_map (all_stand_for b)) (items_read b q items h s)

pub text_has_value : (text : List ℕ) (l : IsLiteral false text) → text_literal_value text ≡ Some (all_stand_for false l.items)
text_has_value text l = ap text_literal_value l.whole ∙ text_behind l.quote (body l.quote l.items) l.quoted ∙ body_is false l.quote l.items l.quoted l.stand

pub bytes_have_value : (text : List ℕ) (l : IsLiteral true text) → bytes_literal_value text ≡ Some (all_stand_for true l.items)
bytes_have_value text l = ap bytes_literal_value l.whole ∙ bytes_behind l.quote (body l.quote l.items) l.quoted ∙ body_is true l.quote l.items l.quoted l.stand

pub text_stands : (text value : List ℕ) → text_literal_value text ≡ Some value → StandsFor false text value
unfolding text_literal_value
text_stands [] value e = cc
text_stands (q ∷ rest) value e = by_test (is_quote q) (items_of false q 0 rest) refl refl e
  where
    by_test : (t : Bool) (read : Option (List Item)) → is_quote q ≡ t → items_of false q 0 rest ≡ read → (if t then option_map (all_stand_for false) read else None) ≡ Some value → StandsFor false (q ∷ rest) value
    by_test false read h r is = cc
    by_test true None h r is = cc
    by_test true (Some items) h r is =
        let spells = items_spell false q 0 rest items r in
        (record { quote = q; items = items; quoted = h; stand = spells.0; whole = ap (λ (l : List ℕ). q ∷ l) spells.1 }, cc)

pub bytes_stand : (text value : List ℕ) → bytes_literal_value text ≡ Some value → StandsFor true text value
unfolding bytes_literal_value
bytes_stand [] value e = cc
bytes_stand (b ∷ []) value e = cc
bytes_stand (b ∷ q ∷ rest) value e = by_test (b == 98) (is_quote q) (items_of true q 0 rest) refl refl refl e
  where
    by_test : (s t : Bool) (read : Option (List Item)) → (b == 98) ≡ s → is_quote q ≡ t → items_of true q 0 rest ≡ read → (if s && t then option_map (all_stand_for true) read else None) ≡ Some value → StandsFor true (b ∷ q ∷ rest) value
    by_test false t read g h r is = cc
    by_test true false read g h r is = cc
    by_test true true None g h r is = cc
    by_test true true (Some items) g h r is =
        let spells = items_spell true q 0 rest items r in
        let same : b ≡ 98 = grind arith in
        (record { quote = q; items = items; quoted = h; stand = spells.0; whole = ap (λ (d : ℕ). d ∷ q ∷ rest) same ∙ ap (λ (l : List ℕ). 98 ∷ q ∷ l) spells.1 }, cc)

-- ---- one reading

behind_opening : (b : Bool) (q : ℕ) (rest : List ℕ) → drop (length (opening b q)) (opening b q ++ rest) ≡ rest
behind_opening true q rest = refl
behind_opening false q rest = refl

opening_size : (b : Bool) (p q : ℕ) → length (opening b p) ≡ length (opening b q)
opening_size true p q = refl
opening_size false p q = refl

quote_in : Bool → List ℕ → ℕ
quote_in true text = get_or text 1 0
quote_in false text = get_or text 0 0

quote_of : (b : Bool) (q : ℕ) (rest : List ℕ) → quote_in b (opening b q ++ rest) ≡ q
unfolding quote_in
quote_of true q rest = refl
quote_of false q rest = refl

pub same_quotes : (b : Bool) (text : List ℕ) (l m : IsLiteral b text) → l.quote ≡ m.quote
same_quotes b text l m = sym (quote_of b l.quote (body l.quote l.items)) ∙ ap (quote_in b) (sym l.whole ∙ m.whole) ∙ quote_of b m.quote (body m.quote m.items)

same_bodies : (b : Bool) (text : List ℕ) (l m : IsLiteral b text) → body l.quote l.items ≡ body m.quote m.items
same_bodies b text l m =
    sym (behind_opening b l.quote (body l.quote l.items)) ∙ ap (drop (length (opening b l.quote))) (sym l.whole ∙ m.whole)
    ∙ ap (λ (n : ℕ). drop n (opening b m.quote ++ body m.quote m.items)) (opening_size b l.quote m.quote) ∙ behind_opening b m.quote (body m.quote m.items)

or_none : Option (List Item) → List Item
or_none None = []
or_none (Some l) = l

some_same : (x y : List Item) → Some x ≡ Some y → x ≡ y
unfolding or_none
some_same x y e = ap or_none e

pub same_items : (b : Bool) (text : List ℕ) (l m : IsLiteral b text) → l.items ≡ m.items
same_items b text l m =
    some_same l.items m.items
    (sym (items_read b l.quote l.items l.quoted l.stand) ∙ ap (items_of b l.quote 0) (same_bodies b text l m)
    ∙ ap (λ (q : ℕ). items_of b q 0 (body m.quote m.items)) (same_quotes b text l m) ∙ items_read b m.quote m.items m.quoted m.stand)

-- ---- escapes

digit_reads : (d : ℕ) → d < 16 → hex_digit (digit_char d) ≡ Some d
digit_reads d low = grind (arith, nat_tests)

digit_is : (d : ℕ) → d < 16 → is_hex (digit_char d) ≡ true
digit_is d low = ap is_some (digit_reads d low)

digit_counts : (d : ℕ) → d < 16 → count_in (hex_digit (digit_char d)) ≡ d
digit_counts d low = ap count_in (digit_reads d low)

two_digits : (n : ℕ) → n < 256 → hex_natural (digit_char (n / 16) ∷ digit_char (n % 16) ∷ []) ≡ n
two_digits n low = let a = digit_counts (n / 16) (omega arith) in let b = digit_counts (n % 16) (omega arith) in omega (arith, a, b)

hex_stands : (q n : ℕ) → n < 256 → may_stand true q (hex_of n) ≡ true
hex_stands q n low = let a = digit_is (n / 16) (omega arith) in let b = digit_is (n % 16) (omega arith) in rw (a, b) refl

all_hex_stand : (q : ℕ) (bytes : List ℕ) → all_below 256 bytes ≡ true → all_may_stand true q (map hex_of bytes) ≡ true
all_hex_stand q [] h = refl
all_hex_stand q (n ∷ ns) h =
    let parts = and_parts (nat_lt n 256) (all_below 256 ns) h in
    and_from (may_stand true q (hex_of n)) (all_may_stand true q (map hex_of ns)) (hex_stands q n (grind arith)) (all_hex_stand q ns parts.1)

all_hex_mean : (bytes : List ℕ) → all_below 256 bytes ≡ true → all_stand_for true (map hex_of bytes) ≡ bytes
all_hex_mean [] h = refl
all_hex_mean (n ∷ ns) h =
    let parts = and_parts (nat_lt n 256) (all_below 256 ns) h in
    let low : n < 256 = grind arith in
    ap (λ (m : ℕ). m ∷ all_stand_for true (map hex_of ns)) (two_digits n low) ∙ ap (λ (l : List ℕ). n ∷ l) (all_hex_mean ns parts.1)

pub bytes_read_back : (bytes : List ℕ) → all_below 256 bytes ≡ true → bytes_literal_value (escaped_bytes bytes) ≡ Some bytes
bytes_read_back bytes h =
    bytes_behind 39 (body 39 (map hex_of bytes)) refl ∙ body_is true 39 (map hex_of bytes) refl (all_hex_stand 39 bytes h) ∙ ap (λ (l : List ℕ). Some l) (all_hex_mean bytes h)

code_digits : (n : ℕ) → n < 65536 → hex_natural (digit_char (n / 4096) ∷ digit_char (n / 256 % 16) ∷ digit_char (n / 16 % 16) ∷ digit_char (n % 16) ∷ []) ≡ n
code_digits n low =
    let a = digit_counts (n / 4096) (omega arith) in
    let b = digit_counts (n / 256 % 16) (omega arith) in
    let c = digit_counts (n / 16 % 16) (omega arith) in
    let d = digit_counts (n % 16) (omega arith) in
    omega (arith, a, b, c, d)

code_plain : (n : ℕ) → n < 65536 → IsScalar n → is_surrogate (digit_char (n / 4096)) (digit_char (n / 256 % 16)) ≡ false
code_plain n low s =
    let high : n / 4096 < 16 = omega arith in
    let next : n / 256 % 16 < 16 = omega arith in
    let first = digit_counts (n / 4096) high in
    let second = digit_counts (n / 256 % 16) next in
    same_test (digit_char (n / 4096)) (digit_char (n / 256 % 16)) (digit_is (n / 4096) high) (digit_is (n / 256 % 16) next)
    ∙ ap (λ (k : ℕ). (k == 13) && not (nat_lt (count_in (hex_digit (digit_char (n / 256 % 16)))) 8)) first ∙ ap (λ (k : ℕ). (n / 4096 == 13) && not (nat_lt k 8)) second
    ∙ no_surrogate (n / 4096) (n / 256 % 16) (n / 256) (n % 256) high next (omega arith) (omega arith) (in_range (scalar_cases n s))
  where
    in_range : (n < 55296) ⊎ ((57344 ≤ n) × (n < 1114112)) → InScalarRange (n / 256 * 256 + n % 256)
    in_range (inl below) = inl (omega (arith, below))
    in_range (inr above) = inr (omega (arith, above), omega (arith, above))

code_stands : (q n : ℕ) → n < 65536 → IsScalar n → may_stand false q (code_of n) ≡ true
code_stands q n low s =
    let a = digit_is (n / 4096) (omega arith) in
    let b = digit_is (n / 256 % 16) (omega arith) in
    let c = digit_is (n / 16 % 16) (omega arith) in
    let d = digit_is (n % 16) (omega arith) in
    let e = code_plain n low s in
    rw (a, b, c, d, e) refl

all_codes_stand : (q : ℕ) (cs : List ℕ) → all_below 65536 cs ≡ true → all_scalars cs ≡ true → all_may_stand false q (map code_of cs) ≡ true
all_codes_stand q [] h s = refl
all_codes_stand q (n ∷ ns) h s =
    let parts = and_parts (nat_lt n 65536) (all_below 65536 ns) h in
    let scalars = and_parts (scalar n) (all_scalars ns) s in
    and_from (may_stand false q (code_of n)) (all_may_stand false q (map code_of ns)) (code_stands q n (grind arith) scalars.0) (all_codes_stand q ns parts.1 scalars.1)

all_codes_mean : (cs : List ℕ) → all_below 65536 cs ≡ true → all_stand_for false (map code_of cs) ≡ encode_utf8_all cs
all_codes_mean [] h = refl
all_codes_mean (n ∷ ns) h =
    let parts = and_parts (nat_lt n 65536) (all_below 65536 ns) h in
    let low : n < 65536 = grind arith in
    ap (λ (m : ℕ). encode_utf8 m ++ all_stand_for false (map code_of ns)) (code_digits n low) ∙ ap (λ (l : List ℕ). encode_utf8 n ++ l) (all_codes_mean ns parts.1)

pub texts_read_back : (cs : List ℕ) → all_below 65536 cs ≡ true → all_scalars cs ≡ true → text_literal_value (escaped_text cs) ≡ Some (encode_utf8_all cs)
texts_read_back cs h s =
    text_behind 39 (body 39 (map code_of cs)) refl ∙ body_is false 39 (map code_of cs) refl (all_codes_stand 39 cs h s) ∙ ap (λ (l : List ℕ). Some l) (all_codes_mean cs h)
