-- What stands in front of a text: a blank, a comment, a line end, a token, or the rule that is broken there.
use Rattle.std.specs.Prelude.{ℕ, ◌+◌, Bool, true, false, ◌==◌, ◌&&◌, nat_lt, List, [], ◌∷◌, take, drop, codes, Option, Some, None, option_map, if◌then◌else◌}
use Rattle.rp_base.specs.declared.rules.Rule.{Rule}
use Rattle.rp_base.specs.declared.rules.Rule.TheVariants as rules
use Rattle.py_lexer.specs.declared.token.TokenKind.{TokenKind}
use Rattle.py_lexer.specs.declared.token.TokenKind.TheVariants as tokens
use Rattle.py_lexer.specs.declared.piece.PieceKind.{PieceKind}
use Rattle.py_lexer.specs.declared.piece.PieceKind.TheVariants as kinds
use Rattle.py_lexer.specs.declared.piece.Piece.{Piece}
use Rattle.py_lexer.specs.Spellings.{is_of, is_quote, is_digit, is_name_start, name_size, is_prefix, is_keyword, number_size, is_int, line_end_size, sign_size, comment_size}
use Rattle.py_lexer.specs.Literals.{literal_size}

abbrev pub piece : PieceKind → ℕ → Piece
piece k n = record { kind = k; size = n }

abbrev pub token : TokenKind → ℕ → Piece
token k n = piece (kinds.Token k) n

abbrev pub refused : Rule → Piece
refused rule = piece (kinds.Refused rule) 1

-- the first character is of this class
abbrev pub starts : (ℕ → Bool) → List ℕ → Bool
starts p [] = false
starts p (c ∷ cs) = p c

-- ---- literals

abbrev pub is_bytes : TokenKind → Bool
is_bytes tokens.Bytes = true
is_bytes _ = false

abbrev pub sized : TokenKind → Option ℕ → Piece
sized k None = refused rules.L4
sized k (Some n) = token k n

abbrev pub literal_piece : TokenKind → ℕ → ℕ → List ℕ → Piece
literal_piece k quote opening text = sized k (option_map (λ n. opening + n) (literal_size quote (is_bytes k) 0 (drop opening text)))

-- the same quote twice
abbrev pub is_twice : ℕ → List ℕ → Bool
is_twice quote (a ∷ b ∷ cs) = (a == quote) && (b == quote)
is_twice quote _ = false

-- a text that its quote begins; three quotes begin a form that is left out
unfoldable pub text_piece : List ℕ → Piece
text_piece [] = refused rules.L4
text_piece (quote ∷ cs) = if is_twice quote cs then refused rules.L4 else literal_piece tokens.Text quote 1 (quote ∷ cs)

-- the same of bytes, behind their b
unfoldable pub bytes_piece : List ℕ → Piece
bytes_piece (b ∷ quote ∷ cs) = if is_twice quote cs then refused rules.L4 else literal_piece tokens.Bytes quote 2 (b ∷ quote ∷ cs)
bytes_piece _ = refused rules.L4

-- ---- numbers and words

-- all letters, digits, `_` and `.` behind a digit belong to its number, which is an int or of a form that is left out
unfoldable pub number_piece : List ℕ → Piece
number_piece text = if is_int (take (number_size text) text) then token tokens.Int (number_size text) else refused rules.L4

abbrev pub longest_name : ℕ
longest_name = 64

abbrev pub word_of : ℕ → List ℕ → List ℕ → Piece
word_of n name after =
    if nat_lt longest_name n then refused rules.L5
    else if starts is_quote after && is_prefix name then refused rules.L4
    else if is_keyword name then token tokens.Keyword n
    else token tokens.Name n

unfoldable pub word_piece : List ℕ → Piece
word_piece text = word_of (name_size text) (take (name_size text) text) (drop (name_size text) text)

-- ---- anything else

abbrev pub sign_of : ℕ → Piece
sign_of n = if nat_lt 0 n then token tokens.Sign n else refused rules.L3

unfoldable pub mark_piece : List ℕ → Piece
mark_piece text = if nat_lt 0 (line_end_size text) then piece kinds.LineEnd (line_end_size text) else sign_of (sign_size text)

-- the piece that begins with the character c, in front of a text
abbrev pub piece_by : ℕ → List ℕ → List ℕ → Piece
piece_by c cs text =
    if c == 32 then piece kinds.Space 1
    else if c == 9 then piece kinds.Tab 1
    else if c == 35 then piece kinds.Comment (comment_size text)
    else if is_of (codes "([{") c then piece kinds.Opener 1
    else if is_of (codes ")]}") c then piece kinds.Closer 1
    else if is_quote c then text_piece text
    else if (c == 98) && starts is_quote cs then bytes_piece text
    else if (c == 46) && starts is_digit cs then refused rules.L4
    else if is_digit c then number_piece text
    else if is_name_start c then word_piece text
    else mark_piece text

unfoldable pub piece_of : List ℕ → Piece
piece_of [] = refused rules.L3
piece_of (c ∷ cs) = piece_by c cs (c ∷ cs)
