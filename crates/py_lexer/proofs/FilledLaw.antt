-- Tokens and blanks fill the text.
use Rattle.std.proofs.Common.{◌≡◌, ◌+◌, ◌<◌, nat_lt, ℕ, List, [], ◌∷◌, ◌++◌, length, drop, Bool, true, false, Ok, refl, sym, subst}
use Rattle.std.specs.Prelude.{if◌then◌else◌}
use Rattle.py_lexer.specs.declared.token.TokenKind.TheVariants as tokens
use Rattle.py_lexer.specs.declared.token.Token.{Token}
use Rattle.py_lexer.specs.Layout.{Place, token_at, last_line, left_open, is_open_line, with_token, closed, finished}
use Rattle.py_lexer.specs.Reading.{tokens_of}
use Rattle.py_lexer.specs.Slices.{blank_size, Blanks, OnlyBlanks, Filled}
use Rattle.py_lexer.proofs.Following.{Kept, follows}

more_blanks : (text sizes : List ℕ) (from to n : ℕ) → Blanks text sizes from to → 0 < n → blank_size (drop to text) ≡ n → Blanks text (sizes ++ n ∷ []) from (to + n)
more_blanks text [] from to n h some is = subst (λ (a : ℕ). (0 < n) × (blank_size (drop a text) ≡ n) × (a + n ≡ to + n)) (sym h) (some, is, refl)
more_blanks text (m ∷ ms) from to n h some is = (h.0, h.1, more_blanks text ms (from + m) to n h.2 some is)

no_blanks : (text : List ℕ) (at : ℕ) → OnlyBlanks text at at
no_blanks text at = ([], refl)

blank_on : (text : List ℕ) (from to n : ℕ) (ts : List Token) → 0 < n → blank_size (drop to text) ≡ n → Filled text from ts to → Filled text from ts (to + n)
blank_on text from to n [] some is h = (h.0 ++ n ∷ [], more_blanks text h.0 from to n h.1 some is)
blank_on text from to n (t ∷ ts) some is h = (h.0, blank_on text t.stop to n ts some is h.1)

token_on : (text : List ℕ) (from to : ℕ) (ts : List Token) (t : Token) → t.start ≡ to → Filled text from ts to → Filled text from (ts ++ t ∷ []) t.stop
token_on text from to [] t is h = (subst (λ (a : ℕ). OnlyBlanks text from a) (sym is) h, no_blanks text t.stop)
token_on text from to (s ∷ ts) t is h = (h.0, token_on text s.stop to ts t is h.1)

abbrev FilledTo : List ℕ → Place → Type 0
FilledTo text p = Filled text 0 p.tokens p.at

filled_kept : (text : List ℕ) → Kept text (FilledTo text)
filled_kept text = record {
  turns = λ p m b h. h;
  deepens = λ p w low more h. token_on text 0 p.at p.tokens (token_at tokens.Indent p.at p.at p.line) refl h;
  closes = λ p w ws low is h. token_on text 0 p.at p.tokens (token_at tokens.Dedent p.at p.at p.line) refl h;
  emits = λ p k n some s h. token_on text 0 p.at p.tokens (token_at k p.at (p.at + n) p.line) refl h;
  passes = λ p n some s h. blank_on text 0 p.at n p.tokens some s.0 h;
  ends = λ p n some s h. blank_on text 0 p.at n p.tokens some s.0 h;
  ends_line = λ p n some s h. token_on text 0 p.at p.tokens (token_at tokens.Newline p.at (p.at + n) p.line) refl h;
}

left_filled : (text : List ℕ) (at l : ℕ) (ws : List ℕ) (ts : List Token) → Filled text 0 ts at → Filled text 0 (left_open 0 (token_at tokens.Dedent at at l) ws ts).1 at
unfolding left_open
left_filled text at l [] ts h = h
left_filled text at l (w ∷ ws) ts h = by_test (nat_lt 0 w) (left_filled text at l ws (ts ++ token_at tokens.Dedent at at l ∷ []) (token_on text 0 at ts (token_at tokens.Dedent at at l) refl h))
  where
    by_test : (b : Bool) → Filled text 0 (left_open 0 (token_at tokens.Dedent at at l) ws (ts ++ token_at tokens.Dedent at at l ∷ [])).1 at
        → Filled text 0 (if b then left_open 0 (token_at tokens.Dedent at at l) ws (ts ++ token_at tokens.Dedent at at l ∷ []) else (w ∷ ws, ts)).1 at
    by_test true more = more
    by_test false more = h

finished_filled : (text : List ℕ) (p : Place) → FilledTo text p → Filled text 0 (finished p) p.at
unfolding finished
finished_filled text p h = by_test (is_open_line p)
  where
    by_test : (b : Bool) → Filled text 0 (closed 0 (last_line p) (if b then with_token (token_at tokens.Newline p.at p.at (last_line p)) p else p)).tokens p.at
    by_test true = left_filled text p.at (last_line p) p.indents (p.tokens ++ token_at tokens.Newline p.at p.at (last_line p) ∷ []) (token_on text 0 p.at p.tokens (token_at tokens.Newline p.at p.at (last_line p)) refl h)
    by_test false = left_filled text p.at (last_line p) p.indents p.tokens h

pub all_filled : (text : List ℕ) (ts : List Token) → tokens_of text ≡ Ok ts → Filled text 0 ts (length text)
all_filled text ts e =
    let found = follows text (FilledTo text) (filled_kept text) (no_blanks text 0) ts e in
    subst (λ (l : List Token). Filled text 0 l (length text)) (sym found.are) (subst (Filled text 0 (finished found.last)) found.at_end (finished_filled text found.last found.holds))
