-- A piece takes a byte or more.
use Rattle.std.proofs.Common.{◌≡◌, ◌<◌, ◌+◌, ℕ, List, [], ◌∷◌, take, drop, codes, Bool, true, false, nat_lt, ◌==◌, ◌&&◌, ◌||◌, Option, Some, None, option_map, refl, subst, arith}
use Rattle.std.specs.Prelude.{if◌then◌else◌}
use Rattle.py_lexer.specs.declared.token.TokenKind.{TokenKind}
use Rattle.py_lexer.specs.declared.token.TokenKind.TheVariants as tokens
use Rattle.rp_base.specs.declared.rules.Rule.TheVariants as rules
use Rattle.py_lexer.specs.declared.piece.PieceKind.TheVariants as kinds
use Rattle.py_lexer.specs.declared.piece.Piece.{Piece}
use Rattle.py_lexer.specs.Literals.{literal_size}
use Rattle.py_lexer.specs.Spellings.{comment_size, line_end_size, front_size, is_name_byte, is_number_byte, is_name_start, is_digit, name_size, sign_size, is_keyword, is_prefix, is_quote, is_of}
use Rattle.py_lexer.specs.Pieces.{sized, piece, token, refused, literal_piece, is_twice, text_piece, bytes_piece, number_piece, word_piece, mark_piece, sign_of, piece_of, starts, longest_name}
use Rattle.py_lexer.proofs.SizeLaws.{step_in}

abbrev IsSome : Piece → Type 0
IsSome x = 0 < x.size

either : (b : Bool) (x y : Piece) → (b ≡ true → IsSome x) → (b ≡ false → IsSome y) → IsSome (if b then x else y)
either true x y h k = h refl
either false x y h k = k refl

one : 0 < 1
one = omega arith

comment_some : (c : ℕ) (cs : List ℕ) → c == 35 ≡ true → 0 < comment_size (c ∷ cs)
comment_some c cs e =
    let is : 35 ≡ c = grind arith in
    let P : ℕ → Type 0 = λ d. 0 < comment_size (d ∷ cs) in
    let step : comment_size (35 ∷ cs) ≡ 1 + comment_size cs = step_in 35 cs refl in
    let some : P 35 = omega (arith, step) in
    subst P is some

sized_some : (k : TokenKind) (n : ℕ) (x : Option ℕ) → 0 < n → IsSome (sized k (option_map (λ m. n + m) x))
sized_some k n None h = one
sized_some k n (Some m) h = omega (arith, h)

unless : (b : Bool) (x : Piece) → IsSome x → IsSome (if b then refused rules.L4 else x)
unless true x h = one
unless false x h = h

text_some : (text : List ℕ) → IsSome (text_piece text)
unfolding text_piece
text_some [] = one
text_some (c ∷ cs) = unless (is_twice c cs) (literal_piece tokens.Text c 1 (c ∷ cs)) (sized_some tokens.Text 1 (literal_size c false 0 cs) one)

bytes_some : (text : List ℕ) → IsSome (bytes_piece text)
unfolding bytes_piece
bytes_some [] = one
bytes_some (b ∷ []) = one
bytes_some (b ∷ c ∷ cs) = let two : 0 < 2 = omega arith in unless (is_twice c cs) (literal_piece tokens.Bytes c 2 (b ∷ c ∷ cs)) (sized_some tokens.Bytes 2 (literal_size c true 0 cs) two)

front_some : (p : ℕ → Bool) (c : ℕ) (cs : List ℕ) → p c ≡ true → 0 < front_size p (c ∷ cs)
front_some p c cs e = let step : front_size p (c ∷ cs) ≡ 1 + front_size p cs = rw e refl in omega (arith, step)

number_byte : (c : ℕ) → is_digit c ≡ true → is_number_byte c ≡ true
number_byte c e = by_test (is_name_start c) (is_digit c) (c == 46) e
  where
    by_test : (a b d : Bool) → b ≡ true → (a || b) || d ≡ true
    by_test true b d h = refl
    by_test false true d h = refl
    by_test false false d h = cc

name_byte : (c : ℕ) → is_name_start c ≡ true → is_name_byte c ≡ true
name_byte c e = by_test (is_name_start c) (is_digit c) e
  where
    by_test : (a b : Bool) → a ≡ true → a || b ≡ true
    by_test true b h = refl
    by_test false b h = cc

number_some : (c : ℕ) (cs : List ℕ) → is_digit c ≡ true → IsSome (number_piece (c ∷ cs))
unfolding number_piece
number_some c cs e = either _ _ _ (λ _. front_some is_number_byte c cs (number_byte c e)) (λ _. one)

word_cases : (n : ℕ) (a b k : Bool) → 0 < n → IsSome (if a then refused rules.L5 else if b then refused rules.L4 else if k then token tokens.Keyword n else token tokens.Name n)
word_cases n true b k h = one
word_cases n false true k h = one
word_cases n false false true h = h
word_cases n false false false h = h

word_some : (c : ℕ) (cs : List ℕ) → is_name_start c ≡ true → IsSome (word_piece (c ∷ cs))
unfolding word_piece
word_some c cs e =
    let n = name_size (c ∷ cs) in
    word_cases n (nat_lt longest_name n) (starts is_quote (drop n (c ∷ cs)) && is_prefix (take n (c ∷ cs))) (is_keyword (take n (c ∷ cs))) (front_some is_name_byte c cs (name_byte c e))

sign_some : (n : ℕ) → IsSome (sign_of n)
sign_some n = either _ _ _ (λ h. let some : 0 < n = grind arith in some) (λ _. one)

mark_some : (text : List ℕ) → IsSome (mark_piece text)
unfolding mark_piece
mark_some text = either _ _ _ (λ h. let some : 0 < line_end_size text = grind arith in some) (λ _. sign_some (sign_size text))

piece_cases : (a b d e f g h i j k : Bool) (n : ℕ) (t y u w m : Piece) → (d ≡ true → 0 < n) → IsSome t → IsSome y → (j ≡ true → IsSome u) → (k ≡ true → IsSome w) → IsSome m
    → IsSome
    (if a then piece kinds.Space 1
    else if b then piece kinds.Tab 1
    else if d then piece kinds.Comment n
    else if e then piece kinds.Opener 1
    else if f then piece kinds.Closer 1
    else if g then t
    else if h then y
    else if i then refused rules.L4
    else if j then u
    else if k then w
    else m)
piece_cases true b d e f g h i j k n t y u w m p q r s v z = one
piece_cases false true d e f g h i j k n t y u w m p q r s v z = one
piece_cases false false true e f g h i j k n t y u w m p q r s v z = p refl
piece_cases false false false true f g h i j k n t y u w m p q r s v z = one
piece_cases false false false false true g h i j k n t y u w m p q r s v z = one
piece_cases false false false false false true h i j k n t y u w m p q r s v z = q
piece_cases false false false false false false true i j k n t y u w m p q r s v z = r
piece_cases false false false false false false false true j k n t y u w m p q r s v z = one
piece_cases false false false false false false false false true k n t y u w m p q r s v z = s refl
piece_cases false false false false false false false false false true n t y u w m p q r s v z = v refl
piece_cases false false false false false false false false false false n t y u w m p q r s v z = z

pub piece_some : (c : ℕ) (cs : List ℕ) → 0 < (piece_of (c ∷ cs)).size
unfolding piece_of
piece_some c cs =
    let text = c ∷ cs in
    piece_cases (c == 32) (c == 9) (c == 35) (is_of (codes "([{") c) (is_of (codes ")]}") c) (is_quote c) ((c == 98) && starts is_quote cs) ((c == 46) && starts is_digit cs) (is_digit c) (is_name_start c)
    (comment_size text) (text_piece text) (bytes_piece text) (number_piece text) (word_piece text) (mark_piece text)
    (comment_some c cs) (text_some text) (bytes_some text) (number_some c cs) (word_some c cs) (mark_some text)
