-- The bytes of escapes, and where they stand behind one another.
use Rattle.std.proofs.Common.{◌≡◌, ℕ, zero, suc, ◌+◌, ◌/◌, ◌%◌, ◌<◌, ◌≤◌, ◌==◌, ◌&&◌, not, if◌then◌else◌, min, Bool, true, false, IsTrue, List, [], ◌∷◌, ◌++◌, length, take, get_or, map, chars, encode_utf8_all, refl, sym, ap, ap₂, ◌∙◌, subst, arith, append_assoc, append-nil}
use Rattle.std.proofs.lemmas.Bool.Decides.{nat_tests}
use Rattle.std.proofs.lemmas.List.{length-append, take_all, take_at, take-take, length-take, map-id}
use Rattle.std.proofs.lemmas.List.Folds.{length-flat_map-take}
use Rattle.std.proofs.lemmas.Str.{encodes-append, encode_ascii, IsCharBoundary-from_take}
use Rattle.std.specs.Char.{digit_char, encode_utf8}
use Rattle.std.specs.List.{flat_map, list_any}
use Rattle.std.specs.String.Boundary.{IsSplitPoint}
use Rattle.std.specs.Str.{IsUtf8, IsCharBoundary}
use Rattle.py_strs.specs.Quoting.{backslash, code_escape, hex, single_quote, double_quote, quote_of, escaped, escaped_byte, text_repr, bytes_repr}
use Rattle.py_strs.specs.QuotingForms.{piece, byte_piece}

pub encodes-flat_map : (f : ℕ → List ℕ) (cs : List ℕ) → encode_utf8_all (flat_map f cs) ≡ flat_map (λ c. encode_utf8_all (f c)) cs
encodes-flat_map f [] = refl
encodes-flat_map f (c ∷ cs) = encodes-append (f c) (flat_map f cs) ∙ ap (λ l. encode_utf8_all (f c) ++ l) (encodes-flat_map f cs)

-- a hex digit is ASCII
pub digit_char-ascii : (d : ℕ) → d < 16 → digit_char d < 128
digit_char-ascii d small = grind (arith, nat_tests)

pub encode-digit : (n : ℕ) → encode_utf8 (digit_char (n % 16)) ≡ digit_char (n % 16) ∷ []
encode-digit n = encode_ascii (digit_char (n % 16)) (digit_char-ascii (n % 16) (omega arith))

pub encodes-digit : (n : ℕ) → encode_utf8_all (digit_char (n % 16) ∷ []) ≡ digit_char (n % 16) ∷ []
encodes-digit n = ap (λ l. l ++ []) (encode-digit n)

pub encodes-hex : (places n : ℕ) → encode_utf8_all (hex (suc places) n) ≡ encode_utf8_all (hex places (n / 16)) ++ digit_char (n % 16) ∷ []
unfolding hex
encodes-hex places n = encodes-append (hex places (n / 16)) (digit_char (n % 16) ∷ []) ∙ ap (λ l. encode_utf8_all (hex places (n / 16)) ++ l) (encodes-digit n)

pub encodes-hex-zero : (n : ℕ) → encode_utf8_all (hex 0 n) ≡ []
unfolding hex
encodes-hex-zero n = refl

pub length-encodes-hex : (places n : ℕ) → length (encode_utf8_all (hex places n)) ≡ places
unfolding hex
length-encodes-hex zero n = refl
length-encodes-hex (suc places) n =
    let more : length (encode_utf8_all (hex places (n / 16)) ++ digit_char (n % 16) ∷ []) ≡ length (encode_utf8_all (hex places (n / 16))) + 1 = length-append (encode_utf8_all (hex places (n / 16))) (digit_char (n % 16) ∷ []) in
    let before = length-encodes-hex places (n / 16) in
    ap length (encodes-hex places n) ∙ more ∙ omega (arith, before)

pub length-code : (n letter digits : ℕ) → code_escape n ≡ backslash ∷ letter ∷ hex digits n → letter < 128 → 2 + digits ≡ length (encode_utf8_all (code_escape n))
length-code n letter digits is ascii =
    let a : length (encode_utf8 backslash) ≡ 1 = ap length (encode_ascii backslash (omega arith)) in
    let b : length (encode_utf8 letter) ≡ 1 = ap length (encode_ascii letter ascii) in
    let later = encode_utf8_all (hex digits n) in
    let d : length later ≡ digits = length-encodes-hex digits n in
    let inner : length (encode_utf8 letter ++ later) ≡ length (encode_utf8 letter) + length later = length-append (encode_utf8 letter) later in
    let outer : length (encode_utf8 backslash ++ (encode_utf8 letter ++ later)) ≡ length (encode_utf8 backslash) + length (encode_utf8 letter ++ later) = length-append (encode_utf8 backslash) (encode_utf8 letter ++ later) in
    let all : length (encode_utf8 backslash ++ (encode_utf8 letter ++ later)) ≡ 2 + digits = omega (arith, a, b, d, inner, outer) in
    sym (ap (λ l. length (encode_utf8_all l)) is ∙ all)

-- a step of `push_hex`
pub hex-written : (digits less n : ℕ) (old middle new : List ℕ) → digits ≡ suc less → middle ≡ old ++ encode_utf8_all (hex less (n / 16)) → new ≡ middle ++ encode_utf8 (digit_char (n % 16)) → new ≡ old ++ encode_utf8_all (hex digits n)
hex-written digits less n old middle new e m h =
    h ∙ ap₂ (λ x y. x ++ y) m (encode-digit n) ∙ append_assoc old (encode_utf8_all (hex less (n / 16))) (digit_char (n % 16) ∷ [])
    ∙ ap (λ l. old ++ l) (sym (encodes-hex less n)) ∙ ap (λ d. old ++ encode_utf8_all (hex d n)) (sym e)

-- `old` stays the front of what is written behind it
pub begins_behind : (old more new : List ℕ) → new ≡ old ++ more → take (length old) new ≡ old
begins_behind old more new e = ap (take (length old)) e ∙ take_at old more (length old) refl

pub begins_still : (old x y middle new : List ℕ) → middle ≡ (old ++ x) ++ y → take (length middle) new ≡ middle → take (length old) new ≡ old
begins_still old x y middle new e h =
    let behind : middle ≡ old ++ (x ++ y) = e ∙ append_assoc old x y in
    let longer : length middle ≡ length old + length (x ++ y) = ap length behind ∙ length-append old (x ++ y) in
    let at_most : length old ≤ length middle = omega (arith, longer) in
    sym (take-take (length old) (length middle) new at_most) ∙ ap (take (length old)) h ∙ begins_behind old (x ++ y) middle behind

-- the quote is one of two
one_byte : (double : Bool) → encode_utf8 (if double then double_quote else single_quote) ≡ (if double then double_quote else single_quote) ∷ []
one_byte true = encode_ascii double_quote (omega arith)
one_byte false = encode_ascii single_quote (omega arith)

pub one_byte_quote : (cs : List ℕ) → encode_utf8 (quote_of cs) ≡ quote_of cs ∷ []
one_byte_quote cs = one_byte (list_any (λ c. c == single_quote) cs && not (list_any (λ c. c == double_quote) cs))

pub text_repr-is : (bs : List ℕ) (q : ℕ) → q ≡ quote_of (chars bs) → text_repr bs ≡ encode_utf8 q ++ (flat_map (piece q) (chars bs) ++ (encode_utf8 q ++ []))
unfolding text_repr
text_repr-is bs q e =
    let o = quote_of (chars bs) in
    let inside : encode_utf8_all (flat_map (escaped o) (chars bs) ++ o ∷ []) ≡ flat_map (piece o) (chars bs) ++ (encode_utf8 o ++ []) =
    encodes-append (flat_map (escaped o) (chars bs)) (o ∷ []) ∙ ap (λ l. l ++ (encode_utf8 o ++ [])) (encodes-flat_map (escaped o) (chars bs)) in
    ap (λ l. encode_utf8 o ++ l) inside ∙ ap (λ p. encode_utf8 p ++ (flat_map (piece p) (chars bs) ++ (encode_utf8 p ++ []))) (sym e)

pub bytes_repr-is : (bs : List ℕ) (q : ℕ) → q ≡ quote_of bs → bytes_repr bs ≡ encode_utf8 0x62 ++ (encode_utf8 q ++ (flat_map (byte_piece q) bs ++ (encode_utf8 q ++ [])))
unfolding bytes_repr
bytes_repr-is bs q e =
    let o = quote_of bs in
    let inside : encode_utf8_all (flat_map (escaped_byte o) bs ++ o ∷ []) ≡ flat_map (byte_piece o) bs ++ (encode_utf8 o ++ []) =
    encodes-append (flat_map (escaped_byte o) bs) (o ∷ []) ∙ ap (λ l. l ++ (encode_utf8 o ++ [])) (encodes-flat_map (escaped_byte o) bs) in
    ap (λ l. encode_utf8 0x62 ++ (encode_utf8 o ++ l)) inside ∙ ap (λ p. encode_utf8 0x62 ++ (encode_utf8 p ++ (flat_map (byte_piece p) bs ++ (encode_utf8 p ++ [])))) (sym e)

length-quoted : (inside q : List ℕ) → length q ≡ 1 → length (q ++ (inside ++ (q ++ []))) ≡ 2 + length inside
length-quoted inside q one =
    let a = length-append q (inside ++ (q ++ [])) in
    let b = length-append inside (q ++ []) in
    let e = length-append q [] in
    omega (arith, a, b, e, one)

pub length-text_repr : (bs : List ℕ) (q : ℕ) → q ≡ quote_of (chars bs) → length (text_repr bs) ≡ 2 + length (flat_map (piece q) (chars bs))
length-text_repr bs q e = ap length (text_repr-is bs q e) ∙ length-quoted (flat_map (piece q) (chars bs)) (encode_utf8 q) (ap (λ p. length (encode_utf8 p)) e ∙ ap length (one_byte_quote (chars bs)))

pub length-bytes_repr : (bs : List ℕ) (q : ℕ) → q ≡ quote_of bs → length (bytes_repr bs) ≡ 3 + length (flat_map (byte_piece q) bs)
length-bytes_repr bs q e =
    let behind = encode_utf8 q ++ (flat_map (byte_piece q) bs ++ (encode_utf8 q ++ [])) in
    let all : length (encode_utf8 0x62 ++ behind) ≡ length (encode_utf8 0x62) + length behind = length-append (encode_utf8 0x62) behind in
    let letter : length (encode_utf8 0x62) ≡ 1 = ap length (encode_ascii 0x62 (omega arith)) in
    let rest : length behind ≡ 2 + length (flat_map (byte_piece q) bs) = length-quoted (flat_map (byte_piece q) bs) (encode_utf8 q) (ap (λ p. length (encode_utf8 p)) e ∙ ap length (one_byte_quote bs)) in
    ap length (bytes_repr-is bs q e) ∙ omega (arith, all, letter, rest)

-- a piece that has no room: with what came before it and the quotes, it passes the room
pub passes : (f : ℕ → List ℕ) (xs : List ℕ) (n c left quotes room : ℕ) → n < length xs → c ≡ get_or xs n c → left + (quotes + length (flat_map f (take n xs))) ≡ room → left < length (f c) → room < quotes + length (flat_map f xs)
passes f xs n c left quotes room inside is sum over =
    let whole = length-flat_map-take f xs n c inside in
    let here : length (f c) ≡ length (f (get_or xs n c)) = ap (λ x. length (f x)) is in
    omega (arith, whole, here, sum, over)

pub so_far : (ys all : List ℕ) → map (λ c. c) ys ≡ take (length ys) all → ys ≡ take (length ys) all
so_far ys all e = sym (map-id ys) ∙ e

behind : (old a b d now new : List ℕ) → now ≡ (old ++ a) ++ b → new ≡ now ++ d → new ≡ old ++ (a ++ (b ++ (d ++ [])))
behind old a b d now new before h =
    h ∙ ap (λ l. l ++ d) before ∙ append_assoc (old ++ a) b d ∙ append_assoc old a (b ++ d)
    ∙ ap (λ l. old ++ (a ++ (b ++ l))) (sym (append-nil d))

-- the whole text or byte string, written
pub text-written : (bs old now new ys : List ℕ) (q : ℕ) → q ≡ quote_of (chars bs) → now ≡ (old ++ encode_utf8 q) ++ flat_map (piece q) ys → map (λ c. c) ys ≡ chars bs → new ≡ now ++ encode_utf8 q → new ≡ old ++ text_repr bs
text-written bs old now new ys q e before all h =
    let whole : now ≡ (old ++ encode_utf8 q) ++ flat_map (piece q) (chars bs) = before ∙ ap (λ l. (old ++ encode_utf8 q) ++ flat_map (piece q) l) (sym (map-id ys) ∙ all) in
    behind old (encode_utf8 q) (flat_map (piece q) (chars bs)) (encode_utf8 q) now new whole h ∙ ap (λ l. old ++ l) (sym (text_repr-is bs q e))

pub bytes-written : (bs old now new : List ℕ) (q n : ℕ) → q ≡ quote_of bs → now ≡ (old ++ (encode_utf8 0x62 ++ encode_utf8 q)) ++ flat_map (byte_piece q) (take n bs) → length bs ≤ n → new ≡ now ++ encode_utf8 q → new ≡ old ++ bytes_repr bs
bytes-written bs old now new q n e before all h =
    let letter = encode_utf8 0x62 in
    let quote = encode_utf8 q in
    let whole : now ≡ (old ++ (letter ++ quote)) ++ flat_map (byte_piece q) bs = before ∙ ap (λ l. (old ++ (letter ++ quote)) ++ flat_map (byte_piece q) l) (take_all n bs all) in
    behind old (letter ++ quote) (flat_map (byte_piece q) bs) quote now new whole h
    ∙ ap (λ l. old ++ l) (append_assoc letter quote (flat_map (byte_piece q) bs ++ (quote ++ [])) ∙ sym (bytes_repr-is bs q e))

-- the text may be cut where `old` ends
pub cut_behind : (n : ℕ) (old new : List ℕ) → n ≡ length old → IsUtf8 old → IsUtf8 new → take (length old) new ≡ old → IsSplitPoint new n
cut_behind n old new e u v h =
    let shorter : length (take (length old) new) ≡ min (length old) (length new) = length-take (length old) new in
    let same : length (take (length old) new) ≡ length old = ap length h in
    let within : n ≤ length new = omega (arith, shorter, same, e) in
    let front : take n new ≡ old = ap (λ k. take k new) e ∙ h in
    let boundary : IsCharBoundary new n = IsCharBoundary-from_take new n v within (subst IsUtf8 (sym front) u) in
    (within, λ _. boundary.1)

-- an answer that is not, and one that is, "it has room"
pub no_room : (n room : ℕ) → room < n → (IsTrue false → n ≤ room) × (n ≤ room → IsTrue false)
no_room n room h = (λ f. cc, λ k. absurd (omega arith))

pub has_room : (n room : ℕ) → n ≤ room → (IsTrue true → n ≤ room) × (n ≤ room → IsTrue true)
has_room n room h = (λ _. h, λ _. refl)
