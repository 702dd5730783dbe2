-- What a piece in front of a text is, in the words of the law about tokens.
use Rattle.std.proofs.Common.{◌≡◌, ◌∙◌, ◌<◌, ◌≤◌, ◌+◌, ◌==◌, ◌&&◌, ◌||◌, not, nat_lt, inl, inr, ℕ, zero, suc, suc, List, [], ◌∷◌, ◌++◌, length, take, drop, codes, Bool, true, false, Option, Some, None, option_map, refl, sym, ap, subst, arith}
use Rattle.std.proofs.lemmas.Bool.{and_from, and_parts}
use Rattle.std.specs.Prelude.{if◌then◌else◌}
use Rattle.std.specs.List.{flat_map}
use Rattle.std.proofs.lemmas.Grind.{common_steps}
use Rattle.rp_base.specs.declared.rules.Rule.TheVariants as rules
use Rattle.py_lexer.specs.declared.token.TokenKind.{TokenKind}
use Rattle.py_lexer.specs.declared.token.TokenKind.TheVariants as tokens
use Rattle.py_lexer.specs.declared.piece.PieceKind.{PieceKind}
use Rattle.py_lexer.specs.declared.piece.PieceKind.TheVariants as kinds
use Rattle.py_lexer.specs.declared.piece.Piece.{Piece}
use Rattle.py_lexer.specs.Spellings.{is_of, is_quote, is_digit, is_name_start, is_name_byte, is_number_byte, front_size, name_size, number_size, is_keyword, is_prefix, is_int, is_one_of, signs, sign_size, line_end_size, comment_size, is_feed}
use Rattle.py_lexer.specs.Literals.{is_hex, is_surrogate, literal_size}
use Rattle.py_lexer.specs.Items.{Item, Byte, Mark, Hex, Code, IsLiteral, spelled, is_plain, is_mark, may_stand, all_may_stand, body, opening}
use Rattle.py_lexer.specs.Pieces.{piece, token, refused, starts, is_bytes, sized, literal_piece, is_twice, text_piece, bytes_piece, number_piece, longest_name, word_piece, mark_piece, piece_of}
use Rattle.py_lexer.specs.Slices.{all_pass, is_name, IsLineEnd, blank_size}
use Rattle.py_lexer.specs.Lines.{feeds}
use Rattle.py_lexer.specs.Refusals.{Causes, begins_literal, begins_none}
use Rattle.py_lexer.proofs.FrontLaws.{or_left, or_right, front_within, front_passes, no_feeds, sign_is_one, sign_calm, sign_within}
use Rattle.py_lexer.proofs.ItemFronts.{literal_body}

-- a token that a piece makes
abbrev pub Reads : TokenKind → List ℕ → Type 0
Reads tokens.Name s = is_name s ≡ true
Reads tokens.Keyword s = is_keyword s ≡ true
Reads tokens.Int s = is_int s ≡ true
Reads tokens.Text s = IsLiteral false s
Reads tokens.Bytes s = IsLiteral true s
Reads tokens.Sign s = is_one_of signs s ≡ true
Reads tokens.Newline s = ⊥
Reads tokens.Indent s = ⊥
Reads tokens.Dedent s = ⊥

-- so many bytes in front, with no line feed
abbrev pub Calm : ℕ → List ℕ → Type 0
Calm n text = (n ≤ length text) × (feeds (take n text) ≡ 0)

abbrev pub Shape : PieceKind → ℕ → List ℕ → Type 0
Shape kinds.Space n text = (blank_size text ≡ n) × Calm n text
Shape kinds.Tab n text = (blank_size text ≡ n) × Calm n text
Shape kinds.Comment n text = (blank_size text ≡ n) × Calm n text
Shape kinds.LineEnd n text = (blank_size text ≡ n) × ((n ≤ length text) × IsLineEnd (take n text))
Shape (kinds.Token k) n text = Reads k (take n text) × Calm n text
Shape kinds.Opener n text = Reads tokens.Sign (take n text) × Calm n text
Shape kinds.Closer n text = Reads tokens.Sign (take n text) × Calm n text
Shape (kinds.Refused rule) n text = Causes rule text

abbrev pub Is : List ℕ → Piece → Type 0
Is text x = Shape x.kind x.size text

either : (text : List ℕ) (b : Bool) (x y : Piece) → (b ≡ true → Is text x) → (b ≡ false → Is text y) → Is text (if b then x else y)
either text true x y h k = h refl
either text false x y h k = k refl

-- ---- blanks

one_calm : (c : ℕ) (cs : List ℕ) → (c == 10) ≡ false → Calm 1 (c ∷ cs)
one_calm c cs e = (omega arith, rw e refl)

space_is : (c : ℕ) (cs : List ℕ) → (c == 32) ≡ true → Is (c ∷ cs) (piece kinds.Space 1)
space_is c cs h = let low : (c == 10) ≡ false = grind arith in (rw h refl, one_calm c cs low)

tab_is : (c : ℕ) (cs : List ℕ) → (c == 9) ≡ true → Is (c ∷ cs) (piece kinds.Tab 1)
tab_is c cs h = let low : (c == 10) ≡ false = grind arith in let other : (c == 32) ≡ false = grind arith in (rw (other, h) refl, one_calm c cs low)

comment_calm : (text : List ℕ) → Calm (comment_size text) text
unfolding comment_size
comment_calm [] = (omega arith, refl)
comment_calm (c ∷ cs) = by_test (line_end_size (c ∷ cs) == 0) refl (comment_calm cs)
  where
    no_feed : (line_end_size (c ∷ cs) == 0) ≡ true → (c == 10) ≡ false
    no_feed h = by_feed (c == 10) h
      where
        by_feed : (b : Bool) → ((if b then 1 else if (c == 13) && is_feed cs then 2 else 0) == 0) ≡ true → b ≡ false
        by_feed true e = cc
        by_feed false e = refl

    by_test : (b : Bool) → (line_end_size (c ∷ cs) == 0) ≡ b → Calm (comment_size cs) cs → Calm (if b then 1 + comment_size cs else 0) (c ∷ cs)
    by_test true e h =
        let low : (c == 10) ≡ false = no_feed e in
        let one : 1 + comment_size cs ≡ suc (comment_size cs) = omega arith in
        (omega (arith, h.0), ap (λ (n : ℕ). feeds (take n (c ∷ cs))) one ∙ ap (λ (b : Bool). if b then 1 + feeds (take (comment_size cs) cs) else feeds (take (comment_size cs) cs)) low ∙ h.1)
    by_test false e h = (omega arith, refl)

comment_is : (c : ℕ) (cs : List ℕ) → (c == 35) ≡ true → Is (c ∷ cs) (piece kinds.Comment (comment_size (c ∷ cs)))
comment_is c cs h =
    let space : (c == 32) ≡ false = grind arith in
    let tab : (c == 9) ≡ false = grind arith in
    (rw (space, tab, h) refl, comment_calm (c ∷ cs))

-- ---- brackets

opener_is : (c : ℕ) (cs : List ℕ) → is_of (codes "([{") c ≡ true → Is (c ∷ cs) (piece kinds.Opener 1)
opener_is c cs h = by_sign (c == 40) (c == 91) (c == 123) refl refl refl h
  where
    by_sign : (x y z : Bool) → (c == 40) ≡ x → (c == 91) ≡ y → (c == 123) ≡ z → x || (y || (z || false)) ≡ true → Is (c ∷ cs) (piece kinds.Opener 1)
    by_sign true y z a b d e = let same : 40 ≡ c = grind arith in subst (λ (k : ℕ). Is (k ∷ cs) (piece kinds.Opener 1)) same (refl, (omega arith, refl))
    by_sign false true z a b d e = let same : 91 ≡ c = grind arith in subst (λ (k : ℕ). Is (k ∷ cs) (piece kinds.Opener 1)) same (refl, (omega arith, refl))
    by_sign false false true a b d e = let same : 123 ≡ c = grind arith in subst (λ (k : ℕ). Is (k ∷ cs) (piece kinds.Opener 1)) same (refl, (omega arith, refl))
    by_sign false false false a b d e = cc

closer_is : (c : ℕ) (cs : List ℕ) → is_of (codes ")]}") c ≡ true → Is (c ∷ cs) (piece kinds.Closer 1)
closer_is c cs h = by_sign (c == 41) (c == 93) (c == 125) refl refl refl h
  where
    by_sign : (x y z : Bool) → (c == 41) ≡ x → (c == 93) ≡ y → (c == 125) ≡ z → x || (y || (z || false)) ≡ true → Is (c ∷ cs) (piece kinds.Closer 1)
    by_sign true y z a b d e = let same : 41 ≡ c = grind arith in subst (λ (k : ℕ). Is (k ∷ cs) (piece kinds.Closer 1)) same (refl, (omega arith, refl))
    by_sign false true z a b d e = let same : 93 ≡ c = grind arith in subst (λ (k : ℕ). Is (k ∷ cs) (piece kinds.Closer 1)) same (refl, (omega arith, refl))
    by_sign false false true a b d e = let same : 125 ≡ c = grind arith in subst (λ (k : ℕ). Is (k ∷ cs) (piece kinds.Closer 1)) same (refl, (omega arith, refl))
    by_sign false false false a b d e = cc

-- ---- literals

pub feeds_both : (xs ys : List ℕ) → feeds (xs ++ ys) ≡ feeds xs + feeds ys
feeds_both [] ys = omega arith
feeds_both (c ∷ cs) ys = by_test (c == 10) (feeds_both cs ys)
  where
    by_test : (b : Bool) → feeds (cs ++ ys) ≡ feeds cs + feeds ys → (if b then 1 + feeds (cs ++ ys) else feeds (cs ++ ys)) ≡ (if b then 1 + feeds cs else feeds cs) + feeds ys
    by_test true h = omega (arith, h)
    by_test false h = h

other_than_feed : (p : ℕ → Bool) (c : ℕ) → p 10 ≡ false → p c ≡ true → (c == 10) ≡ false
other_than_feed p c low h = by_test (c == 10) refl
  where
    by_test : (b : Bool) → (c == 10) ≡ b → b ≡ false
    by_test true e = let same : c ≡ 10 = grind arith in let passes : p 10 ≡ true = sym (ap p same) ∙ h in cc
    by_test false e = refl

item_calm : (b : Bool) (q : ℕ) (i : Item) → may_stand b q i ≡ true → feeds (spelled i) ≡ 0
item_calm b q (Byte c) h = let plain = and_parts (not (c == q)) (is_plain b c) h in let low : (c == 10) ≡ false = other_than_feed (is_plain b) c refl plain.1 in rw low refl
item_calm b q (Mark c) h = let low : (c == 10) ≡ false = other_than_feed is_mark c refl h in rw low refl
item_calm b q (Hex x y) h =
    let parts = and_parts (is_hex x) (is_hex y) h in
    let first : (x == 10) ≡ false = other_than_feed is_hex x refl parts.0 in
    let second : (y == 10) ≡ false = other_than_feed is_hex y refl parts.1 in
    rw (first, second) refl
item_calm true q (Code x y z w) h = cc
item_calm false q (Code x y z w) h =
    let all = and_parts (is_hex x && is_hex y && is_hex z && is_hex w) (not (is_surrogate x y)) h in
    let three = and_parts (is_hex x && is_hex y && is_hex z) (is_hex w) all.0 in
    let two = and_parts (is_hex x && is_hex y) (is_hex z) three.0 in
    let one = and_parts (is_hex x) (is_hex y) two.0 in
    let first : (x == 10) ≡ false = other_than_feed is_hex x refl one.0 in
    let second : (y == 10) ≡ false = other_than_feed is_hex y refl one.1 in
    let third : (z == 10) ≡ false = other_than_feed is_hex z refl two.1 in
    let fourth : (w == 10) ≡ false = other_than_feed is_hex w refl three.1 in
    rw (first, second, third, fourth) refl

items_calm : (b : Bool) (q : ℕ) (items : List Item) → all_may_stand b q items ≡ true → feeds (flat_map spelled items) ≡ 0
items_calm b q [] h = refl
items_calm b q (i ∷ is) h =
    let parts = and_parts (may_stand b q i) (all_may_stand b q is) h in
    let first = item_calm b q i parts.0 in
    let more = items_calm b q is parts.1 in
    let both = feeds_both (spelled i) (flat_map spelled is) in
    omega (arith, first, more, both)

quote_calm : (q : ℕ) → is_quote q ≡ true → feeds (q ∷ []) ≡ 0
quote_calm q h = let low : (q == 10) ≡ false = other_than_feed is_quote q refl h in rw low refl

body_calm : (b : Bool) (q : ℕ) (items : List Item) → is_quote q ≡ true → all_may_stand b q items ≡ true → feeds (body q items) ≡ 0
body_calm b q items h s =
    let first = items_calm b q items s in
    let last = quote_calm q h in
    let both = feeds_both (flat_map spelled items) (q ∷ []) in
    omega (arith, first, last, both)

-- what begins a literal
by_quote : (c : ℕ) (cs : List ℕ) → is_quote c ≡ true → begins_literal (c ∷ cs) ≡ true
by_quote c cs h = rw h refl

by_digit : (c : ℕ) (cs : List ℕ) → is_digit c ≡ true → begins_literal (c ∷ cs) ≡ true
by_digit c cs h = or_left _ _ (or_left _ _ (or_left _ _ (or_right (is_quote c) (is_digit c) h)))

by_point : (c : ℕ) (cs : List ℕ) → (c == 46) && starts is_digit cs ≡ true → begins_literal (c ∷ cs) ≡ true
by_point c cs h = or_left _ _ (or_left _ _ (or_right (is_quote c || is_digit c) ((c == 46) && starts is_digit cs) h))

by_b : (c : ℕ) (cs : List ℕ) → (c == 98) && starts is_quote cs ≡ true → begins_literal (c ∷ cs) ≡ true
by_b c cs h = or_left _ _ (or_right (is_quote c || is_digit c || ((c == 46) && starts is_digit cs)) ((c == 98) && starts is_quote cs) h)

by_prefix : (c : ℕ) (cs : List ℕ) → starts is_quote (drop (name_size (c ∷ cs)) (c ∷ cs)) && is_prefix (take (name_size (c ∷ cs)) (c ∷ cs)) ≡ true → begins_literal (c ∷ cs) ≡ true
by_prefix c cs h = or_right (is_quote c || is_digit c || ((c == 46) && starts is_digit cs) || ((c == 98) && starts is_quote cs)) (starts is_quote (drop (name_size (c ∷ cs)) (c ∷ cs)) && is_prefix (take (name_size (c ∷ cs)) (c ∷ cs))) h

by_opening : (b : Bool) (q : ℕ) (rest : List ℕ) → is_quote q ≡ true → begins_literal (opening b q ++ rest) ≡ true
by_opening true q rest h = by_b 98 (q ∷ rest) h
by_opening false q rest h = by_quote q rest h

-- a literal behind its opening
literal_is : (b : Bool) (k : TokenKind) (q n : ℕ) (rest : List ℕ) → is_quote q ≡ true → is_bytes k ≡ b → ((s : List ℕ) → IsLiteral b s → Reads k s) → literal_size q b 0 rest ≡ Some n
    → Is (opening b q ++ rest) (token k (length (opening b q) + n))
literal_is b k q n rest h kind reads e =
    let found = literal_body (length rest) b q n rest (omega arith) e in
    let fits : length (opening b q) ≤ length (opening b q ++ rest) = grind (arith, common_steps) in
    let whole : take (length (opening b q) + n) (opening b q ++ rest) ≡ opening b q ++ body q found.items = taken b ∙ ap (λ (t : List ℕ). opening b q ++ t) found.spells in
    let first = opening_calm b in
    let more = body_calm b q found.items h found.stand in
    let both = feeds_both (opening b q) (body q found.items) in
    let calm : feeds (opening b q ++ body q found.items) ≡ 0 = omega (arith, first, more, both) in
    let long : length (opening b q ++ rest) ≡ length (opening b q) + length rest = grind (arith, common_steps) in
    (reads (take (length (opening b q) + n) (opening b q ++ rest)) (record { quote = q; items = found.items; quoted = h; stand = found.stand; whole = whole }), (omega (arith, long, found.within), ap feeds whole ∙ calm))
  where
    taken : (b : Bool) → take (length (opening b q) + n) (opening b q ++ rest) ≡ opening b q ++ take n rest
    taken true = let two : 2 + n ≡ suc (suc n) = omega arith in ap (λ (m : ℕ). take m (98 ∷ q ∷ rest)) two
    taken false = let one : 1 + n ≡ suc n = omega arith in ap (λ (m : ℕ). take m (q ∷ rest)) one

    opening_calm : (b : Bool) → feeds (opening b q) ≡ 0
    opening_calm true = quote_calm q h
    opening_calm false = quote_calm q h

sized_is : (b : Bool) (k : TokenKind) (q : ℕ) (rest : List ℕ) (x : Option ℕ) → is_quote q ≡ true → is_bytes k ≡ b → ((s : List ℕ) → IsLiteral b s → Reads k s) → literal_size q b 0 rest ≡ x
    → Is (opening b q ++ rest) (sized k (option_map (λ n. length (opening b q) + n) x))
sized_is b k q rest None h kind reads e = by_opening b q rest h
sized_is b k q rest (Some n) h kind reads e = literal_is b k q n rest h kind reads e

text_is : (c : ℕ) (cs : List ℕ) → is_quote c ≡ true → Is (c ∷ cs) (text_piece (c ∷ cs))
unfolding text_piece
text_is c cs h = either (c ∷ cs) (is_twice c cs) (refused rules.L4) (literal_piece tokens.Text c 1 (c ∷ cs)) (λ _. by_quote c cs h) (λ _. sized_is false tokens.Text c cs (literal_size c false 0 cs) h refl (λ s l. l) refl)

bytes_is : (c d : ℕ) (cs : List ℕ) → (c == 98) ≡ true → is_quote d ≡ true → Is (c ∷ d ∷ cs) (bytes_piece (c ∷ d ∷ cs))
unfolding bytes_piece
bytes_is c d cs b h =
    let same : 98 ≡ c = grind arith in
    subst (λ (k : ℕ). Is (k ∷ d ∷ cs) (bytes_piece (k ∷ d ∷ cs))) same
    (either (98 ∷ d ∷ cs) (is_twice d cs) (refused rules.L4) (literal_piece tokens.Bytes d 2 (98 ∷ d ∷ cs)) (λ _. by_opening true d cs h) (λ _. sized_is true tokens.Bytes d cs (literal_size d true 0 cs) h refl (λ s l. l) refl))

bytes_in_front : (c : ℕ) (cs : List ℕ) → ((c == 98) && starts is_quote cs) ≡ true → Is (c ∷ cs) (bytes_piece (c ∷ cs))
bytes_in_front c [] h = absurd (no_start (c == 98) h)
  where
    no_start : (b : Bool) → b && false ≡ true → ⊥
    no_start true e = cc
    no_start false e = cc
bytes_in_front c (d ∷ cs) h = let parts = and_parts (c == 98) (is_quote d) h in bytes_is c d cs parts.0 parts.1

-- ---- numbers, names and signs

number_is : (c : ℕ) (cs : List ℕ) → is_digit c ≡ true → Is (c ∷ cs) (number_piece (c ∷ cs))
unfolding number_piece
number_is c cs digit =
    let text = c ∷ cs in
    either text (is_int (take (number_size text) text)) (token tokens.Int (number_size text)) (refused rules.L4)
    (λ h. (h, (front_within is_number_byte text, no_feeds is_number_byte (take (number_size text) text) refl (front_passes is_number_byte text)))) (λ _. by_digit c cs digit)

name_is : (c : ℕ) (cs : List ℕ) → is_name_start c ≡ true → nat_lt longest_name (name_size (c ∷ cs)) ≡ false → is_keyword (take (name_size (c ∷ cs)) (c ∷ cs)) ≡ false → is_name (take (name_size (c ∷ cs)) (c ∷ cs)) ≡ true
name_is c cs h short plain =
    let more = front_size is_name_byte cs in
    let first : is_name_byte c ≡ true = rw h refl in
    let size : name_size (c ∷ cs) ≡ suc more = rw first (omega arith) in
    let within : more ≤ length cs = front_within is_name_byte cs in
    let long : length (c ∷ take more cs) ≡ suc more = grind (arith, common_steps) in
    let passes : all_pass is_name_byte (take more cs) ≡ true = front_passes is_name_byte cs in
    let low : nat_lt longest_name (length (c ∷ take more cs)) ≡ false = ap (nat_lt longest_name) (long ∙ sym size) ∙ short in
    let own : is_keyword (c ∷ take more cs) ≡ false = sym (ap (λ (n : ℕ). is_keyword (take n (c ∷ cs))) size) ∙ plain in
    ap (λ (n : ℕ). is_name (take n (c ∷ cs))) size ∙ all_four (is_name_start c) (all_pass is_name_byte (take more cs)) (nat_lt longest_name (length (c ∷ take more cs))) (is_keyword (c ∷ take more cs)) h passes low own
  where
    all_four : (a b s k : Bool) → a ≡ true → b ≡ true → s ≡ false → k ≡ false → a && b && not s && not k ≡ true
    all_four true true false false h i j l = refl
    all_four false b s k h i j l = cc
    all_four true false s k h i j l = cc
    all_four true true true k h i j l = cc
    all_four true true false true h i j l = cc

word_is : (c : ℕ) (cs : List ℕ) → is_name_start c ≡ true → Is (c ∷ cs) (word_piece (c ∷ cs))
unfolding word_piece
word_is c cs h =
    let text = c ∷ cs in
    let n = name_size (c ∷ cs) in
    let calm : Calm (name_size (c ∷ cs)) (c ∷ cs) = (front_within is_name_byte (c ∷ cs), no_feeds is_name_byte (take (name_size (c ∷ cs)) (c ∷ cs)) refl (front_passes is_name_byte (c ∷ cs))) in
    either text (nat_lt longest_name n) _ _ (λ long. and_from (is_name_start c) (nat_lt longest_name n) h long)
    (λ short. either text (starts is_quote (drop n text) && is_prefix (take n text)) _ _ (λ before. by_prefix c cs before) (λ _. either text (is_keyword (take n text)) (token tokens.Keyword n) (token tokens.Name n) (λ key. (key, calm)) (λ plain. (name_is c cs h short plain, calm))))

sign_is : (text : List ℕ) → 0 < sign_size text → sign_size text ≤ length text → Is text (token tokens.Sign (sign_size text))
sign_is text some within = let one = sign_is_one text some in (one, (within, sign_calm (take (sign_size text) text) one))

line_end_is : (c : ℕ) (cs : List ℕ) → nat_lt 0 (line_end_size (c ∷ cs)) ≡ true → (c == 32) ≡ false → (c == 9) ≡ false → (c == 35) ≡ false → Is (c ∷ cs) (piece kinds.LineEnd (line_end_size (c ∷ cs)))
line_end_is c cs h space tab hash = (rw (space, tab, hash) refl, ends (c == 10) (c == 13) cs refl refl h)
  where
    ends : (a b : Bool) (cs : List ℕ) → (c == 10) ≡ a → (c == 13) ≡ b → nat_lt 0 (if a then 1 else if b && is_feed cs then 2 else 0) ≡ true
        → ((if a then 1 else if b && is_feed cs then 2 else 0) ≤ suc (length cs)) × IsLineEnd (take (if a then 1 else if b && is_feed cs then 2 else 0) (c ∷ cs))
    ends true b cs x y some = let same : c ≡ 10 = grind arith in (omega arith, inl (ap (λ (d : ℕ). d ∷ []) same))
    ends false false cs x y some = cc
    ends false true [] x y some = cc
    ends false true (d ∷ ds) x y some = by_feed (d == 10) refl some
      where
        by_feed : (e : Bool) → (d == 10) ≡ e → nat_lt 0 (if e then 2 else 0) ≡ true → ((if e then 2 else 0) ≤ suc (suc (length ds))) × IsLineEnd (take (if e then 2 else 0) (c ∷ d ∷ ds))
        by_feed true z some = let first : c ≡ 13 = grind arith in let second : d ≡ 10 = grind arith in (omega arith, inr (ap (λ (k : ℕ). k ∷ d ∷ []) first ∙ ap (λ (k : ℕ). 13 ∷ k ∷ []) second))
        by_feed false z some = cc

none_begins : (c : ℕ) (cs : List ℕ) → (c == 32) ≡ false → (c == 9) ≡ false → (c == 35) ≡ false → is_quote c ≡ false → is_digit c ≡ false → is_name_start c ≡ false
    → nat_lt 0 (line_end_size (c ∷ cs)) ≡ false → nat_lt 0 (sign_size (c ∷ cs)) ≡ false → begins_none (c ∷ cs) ≡ true
none_begins c cs space tab hash quote digit name no_end no_sign =
    let blank : is_of (32 ∷ 9 ∷ 35 ∷ []) c ≡ false = rw (space, tab, hash) refl in
    all_six (is_of (32 ∷ 9 ∷ 35 ∷ []) c) (is_quote c) (is_digit c) (is_name_start c) (line_end_size (c ∷ cs) == 0) (sign_size (c ∷ cs) == 0) blank quote digit name (zero_of (line_end_size (c ∷ cs)) no_end) (zero_of (sign_size (c ∷ cs)) no_sign)
  where
    zero_of : (n : ℕ) → nat_lt 0 n ≡ false → (n == 0) ≡ true
    zero_of zero h = refl
    zero_of (suc n) h = absurd (let low : suc n ≤ 0 = grind arith in omega (arith, low))

    all_six : (a b d e f g : Bool) → a ≡ false → b ≡ false → d ≡ false → e ≡ false → f ≡ true → g ≡ true → not a && not b && not d && not e && f && g ≡ true
    all_six a b d e f g h i j k l m = rw (h, i, j, k, l, m) refl

mark_is : (c : ℕ) (cs : List ℕ) → (c == 32) ≡ false → (c == 9) ≡ false → (c == 35) ≡ false → is_quote c ≡ false → is_digit c ≡ false → is_name_start c ≡ false → Is (c ∷ cs) (mark_piece (c ∷ cs))
unfolding mark_piece
mark_is c cs space tab hash quote digit name =
    either (c ∷ cs) (nat_lt 0 (line_end_size (c ∷ cs))) _ _ (λ h. line_end_is c cs h space tab hash)
    (λ no_end. either (c ∷ cs) (nat_lt 0 (sign_size (c ∷ cs))) _ _ (λ h. let some : 0 < sign_size (c ∷ cs) = grind arith in sign_is (c ∷ cs) some (sign_within (c ∷ cs)))
    (λ no_sign. none_begins c cs space tab hash quote digit name no_end no_sign))

pub piece_is : (c : ℕ) (cs : List ℕ) → Is (c ∷ cs) (piece_of (c ∷ cs))
unfolding piece_of
piece_is c cs =
    let text = c ∷ cs in
    either text (c == 32) _ _ (λ h. space_is c cs h)
    (λ space. either text (c == 9) _ _ (λ h. tab_is c cs h)
    (λ tab. either text (c == 35) _ _ (λ h. comment_is c cs h)
    (λ hash. either text (is_of (codes "([{") c) _ _ (λ h. opener_is c cs h)
    (λ _. either text (is_of (codes ")]}") c) _ _ (λ h. closer_is c cs h)
    (λ _. either text (is_quote c) _ _ (λ h. text_is c cs h)
    (λ quote. either text ((c == 98) && starts is_quote cs) _ _ (λ h. bytes_in_front c cs h)
    (λ _. either text ((c == 46) && starts is_digit cs) _ _ (λ h. by_point c cs h)
    (λ _. either text (is_digit c) _ _ (λ h. number_is c cs h)
    (λ digit. either text (is_name_start c) _ _ (λ h. word_is c cs h) (λ name. mark_is c cs space tab hash quote digit name))))))))))
