-- The tokens of a text, read from the left.
use Rattle.std.specs.Prelude.{◌≡◌, ℕ, zero, suc, ◌-◌, List, [], ◌∷◌, Result, Ok, Err}
use Rattle.rp_base.specs.declared.rules.Refused.{Refused}
use Rattle.py_lexer.specs.declared.token.Token.{Token}
use Rattle.py_lexer.specs.declared.token.LexEnd.{LexEnd}
use Rattle.py_lexer.specs.Pieces.{piece_of}
use Rattle.py_lexer.specs.Layout.{Place, Next, start, taken, finished, Stops}

abbrev pub go_on : (Place → Result (List Token) Refused) → Next → Result (List Token) Refused
go_on further (Ok p) = further p
go_on further (Err e) = Err e

-- The tokens of a text whose rest is given, from a place in it: piece by piece. So many bytes in front belong to the piece
-- that was taken.
unfoldable pub read_on : Place → ℕ → List ℕ → Result (List Token) Refused
read_on p within [] = Ok (finished p)
read_on p (suc within) (c ∷ cs) = read_on p within cs
read_on p zero (c ∷ cs) = go_on (λ q. read_on q ((piece_of (c ∷ cs)).size - 1) cs) (taken (piece_of (c ∷ cs)) p)

abbrev pub tokens_of : List ℕ → Result (List Token) Refused
tokens_of text = read_on start 0 text

-- the answer is what is read, unless memory ran out
abbrev pub Answers : {X : Type 0} → (X → List Token) → Result X LexEnd → Result (List Token) Refused → Type 0
Answers view (Ok found) read = read ≡ Ok (view found)
Answers view (Err e) read = Stops e read
