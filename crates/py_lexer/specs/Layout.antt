-- Lines, indentations and brackets: what a piece of the text does to a place in it.
use Rattle.std.specs.Prelude.{◌≡◌, ℕ, ◌+◌, ◌-◌, Bool, true, false, ◌==◌, ◌&&◌, nat_lt, List, [], ◌∷◌, ◌++◌, Option, Some, None, Result, Ok, Err, if◌then◌else◌}
use Rattle.rp_base.specs.declared.rules.Rule.{Rule}
use Rattle.rp_base.specs.declared.rules.Rule.TheVariants as rules
use Rattle.rp_base.specs.declared.rules.Refused.{Refused}
use Rattle.py_lexer.specs.declared.token.TokenKind.{TokenKind}
use Rattle.py_lexer.specs.declared.token.TokenKind.TheVariants as tokens
use Rattle.py_lexer.specs.declared.token.Token.{Token}
use Rattle.py_lexer.specs.declared.token.LexEnd.{LexEnd}
use Rattle.py_lexer.specs.declared.token.LexEnd.TheVariants as ends
use Rattle.py_lexer.specs.declared.piece.PieceKind.{PieceKind}
use Rattle.py_lexer.specs.declared.piece.PieceKind.TheVariants as kinds
use Rattle.py_lexer.specs.declared.piece.Piece.{Piece}
use Rattle.py_lexer.specs.declared.reader.Margin.{Margin}
use Rattle.py_lexer.specs.declared.reader.Margin.TheVariants as margins
use Rattle.py_lexer.specs.declared.reader.Reader.{Reader}

-- A place in a text: the tokens before it, the widths of the open indentations from the innermost out, what stands before
-- it on its line, its number of bytes, its line and where that begins, and how many brackets are open.
pub record Place : Type 0 where
  pub tokens : List Token
  pub indents : List ℕ
  pub margin : Margin
  pub at : ℕ
  pub line : ℕ
  pub line_start : ℕ
  pub brackets : ℕ

abbrev pub start : Place
start = record { tokens = []; indents = []; margin = margins.Blank; at = 0; line = 1; line_start = 0; brackets = 0 }

-- where it goes on, or the rule that is broken
abbrev pub Next : Type 0
Next = Result Place Refused

infixl 10 ◌>>=◌
abbrev pub ◌>>=◌ : Next → (Place → Next) → Next
(Ok p) >>= f = f p
(Err e) >>= f = Err e

abbrev pub refusal : ℕ → Rule → Refused
refusal l r = record { line = l; rule = r }

abbrev pub token_at : TokenKind → ℕ → ℕ → ℕ → Token
token_at k a b l = record { kind = k; start = a; stop = b; line = l }

abbrev pub with_token : Token → Place → Place
with_token t p = record p { tokens = p.tokens ++ t ∷ [] }

-- ---- going on

abbrev pub longest_text : ℕ
longest_text = 1048576

abbrev pub stop_of : ℕ → ℕ → Option ℕ
stop_of at n = if nat_lt longest_text (at + n) then None else Some (at + n)

abbrev pub passed_to : Option ℕ → Place → Next
passed_to None p = Err (refusal p.line rules.L5)
passed_to (Some stop) p = Ok (record p { at = stop })

-- behind so many bytes, which must end within the longest text
unfoldable pub passed : ℕ → Place → Next
passed n p = passed_to (stop_of p.at n) p

-- behind a token of so many bytes
unfoldable pub emitted : TokenKind → ℕ → Place → Next
emitted k n p = passed n p >>= λ q. Ok (record (with_token (token_at k p.at q.at q.line) q) { margin = margins.Closed })

abbrev pub is_closed : Margin → Bool
is_closed margins.Closed = true
is_closed _ = false

-- tokens stand on the line, and no bracket is open
abbrev pub is_open_line : Place → Bool
is_open_line p = (p.brackets == 0) && is_closed p.margin

abbrev pub next_line : Place → Place
next_line p = record p { margin = if p.brackets == 0 then margins.Blank else p.margin; line = p.line + 1; line_start = p.at }

abbrev pub with_newline : ℕ → ℕ → Place → Place
with_newline from l p = if is_open_line p then with_token (token_at tokens.Newline from p.at l) p else p

-- behind a line end of so many bytes
unfoldable pub ended : ℕ → Place → Next
ended n p = passed n p >>= λ q. Ok (next_line (with_newline p.at q.line q))

abbrev pub tabbed : Margin → Margin
tabbed margins.Closed = margins.Closed
tabbed _ = margins.Tabbed

-- ---- indentations

abbrev pub top : List ℕ → ℕ
top [] = 0
top (w ∷ ws) = w

abbrev pub below : List ℕ → List ℕ
below [] = []
below (w ∷ ws) = ws

-- the indentations that are not deeper, and the tokens with one more for each that is
unfoldable pub left_open : ℕ → Token → List ℕ → List Token → List ℕ × List Token
left_open width dedent [] ts = ([], ts)
left_open width dedent (w ∷ ws) ts = if nat_lt width w then left_open width dedent ws (ts ++ dedent ∷ []) else (w ∷ ws, ts)

abbrev pub with_open : Place → List ℕ × List Token → Place
with_open p open_now = record p { indents = open_now.0; tokens = open_now.1 }

abbrev pub closed : ℕ → ℕ → Place → Place
closed width l p = with_open p (left_open width (token_at tokens.Dedent p.at p.at l) p.indents p.tokens)

-- the line's indentation is now the innermost that is open
abbrev pub matched : ℕ → Place → Next
matched width p = if top p.indents == width then Ok p else Err (refusal p.line rules.L2)

abbrev pub deeper : ℕ → Place → Place
deeper width p = record (with_token (token_at tokens.Indent p.at p.at p.line) p) { indents = width ∷ p.indents }

-- a line begins with this indentation
unfoldable pub indented : ℕ → Place → Next
indented width p = if nat_lt (top p.indents) width then Ok (deeper width p) else matched width (closed width p.line p)

abbrev pub settled_by : Margin → Place → Next
settled_by margins.Blank p = indented (p.at - p.line_start) p
settled_by margins.Tabbed p = Err (refusal p.line rules.L1)
settled_by margins.Closed p = Ok p

-- before a token: the first of a line settles its indentation
unfoldable pub settled : Place → Next
settled p = settled_by p.margin p

-- ---- what a piece does

abbrev pub taken_by : PieceKind → ℕ → Place → Next
taken_by kinds.Space n p = passed n p
taken_by kinds.Comment n p = passed n p
taken_by kinds.Tab n p = passed n p >>= λ q. Ok (record q { margin = tabbed q.margin })
taken_by kinds.LineEnd n p = ended n p
taken_by (kinds.Token k) n p = settled p >>= emitted k n
taken_by kinds.Opener n p = settled p >>= emitted tokens.Sign n >>= λ q. Ok (record q { brackets = q.brackets + 1 })
taken_by kinds.Closer n p = settled p >>= emitted tokens.Sign n >>= λ q. Ok (record q { brackets = q.brackets - 1 })
taken_by (kinds.Refused rule) n p = settled p >>= λ q. Err (refusal q.line rule)

unfoldable pub taken : Piece → Place → Next
taken x p = taken_by x.kind x.size p

-- the last line that has a byte, of a text that ends here
abbrev pub last_line : Place → ℕ
last_line p = if p.at == p.line_start then p.line - 1 else p.line

-- the tokens of a text that ends here
unfoldable pub finished : Place → List Token
finished p = (closed 0 (last_line p) (with_newline p.at (last_line p) p)).tokens

-- ---- what the code's functions return

abbrev pub place_of : Reader → Place
place_of r = record { tokens = r.tokens.items; indents = r.indents; margin = r.margin; at = r.at; line = r.line; line_start = r.line_start; brackets = r.brackets }

-- an error is the refusal that is read, unless memory ran out
abbrev pub Stops : {Y : Type 0} → LexEnd → Result Y Refused → Type 0
Stops (ends.Refused r) read = read ≡ Err r
Stops ends.NoMemory read = Unit {0}

-- a call went to this place, unless memory ran out
abbrev pub Went : {X : Type 0} → Result X LexEnd → Place → Next → Type 0
Went (Ok x) p read = read ≡ Ok p
Went (Err e) p read = Stops e read
