-- Tokens stand in order.
use Rattle.std.proofs.Common.{◌≡◌, ◌≤◌, ◌+◌, ◌-◌, ◌==◌, ℕ, List, [], ◌∷◌, ◌++◌, Bool, true, false, nat_lt, None, Some, Ok, Err, refl, subst, sym, arith}
use Rattle.std.proofs.Math.Nat.{le_refl}
use Rattle.std.specs.Prelude.{if◌then◌else◌}
use Rattle.rp_base.specs.declared.rules.Rule.TheVariants as rules
use Rattle.py_lexer.specs.declared.token.TokenKind.{TokenKind}
use Rattle.py_lexer.specs.declared.token.TokenKind.TheVariants as tokens
use Rattle.py_lexer.specs.declared.token.Token.{Token}
use Rattle.py_lexer.specs.declared.piece.PieceKind.{PieceKind}
use Rattle.py_lexer.specs.declared.piece.PieceKind.TheVariants as kinds
use Rattle.py_lexer.specs.declared.piece.Piece.{Piece}
use Rattle.py_lexer.specs.declared.reader.Margin.{Margin}
use Rattle.py_lexer.specs.declared.reader.Margin.TheVariants as margins
use Rattle.py_lexer.specs.Layout.{Place, Next, ◌>>=◌, refusal, longest_text, passed_to, passed, emitted, ended, with_newline, is_open_line, with_token, token_at, left_open, closed, deeper, matched, indented, top, settled_by, settled, taken_by, taken, finished, last_line}
use Rattle.py_lexer.specs.Order.{InOrder}
use Rattle.py_lexer.proofs.MoveLaws.{Goes, goes_on, goes_to, newline_stays}

pub weaker : (from : ℕ) (ts : List Token) (a b : ℕ) → InOrder from ts a → a ≤ b → InOrder from ts b
weaker from [] a b h x = omega (arith, h, x)
weaker from (t ∷ ts) a b h x = (h.0, h.1, weaker t.stop ts a b h.2 x)

pub one_more : (from : ℕ) (ts : List Token) (t : Token) (a b : ℕ) → InOrder from ts a → a ≤ t.start → t.start ≤ t.stop → t.stop ≤ b → InOrder from (ts ++ t ∷ []) b
one_more from [] t a b h x y z = (omega (arith, h, x), y, z)
one_more from (s ∷ ts) t a b h x y z = (h.0, h.1, one_more s.stop ts t a b h.2 x y z)

-- the tokens before a place
abbrev pub Ordered : Place → Type 0
Ordered p = InOrder 0 p.tokens p.at

left_ordered : (width at : ℕ) (k : TokenKind) (l : ℕ) (ws : List ℕ) (ts : List Token) → InOrder 0 ts at → InOrder 0 (left_open width (token_at k at at l) ws ts).1 at
unfolding left_open
left_ordered width at k l [] ts h = h
left_ordered width at k l (w ∷ ws) ts h = by_test (nat_lt width w) (left_ordered width at k l ws (ts ++ token_at k at at l ∷ []) (one_more 0 ts (token_at k at at l) at at h (le_refl at) (le_refl at) (le_refl at)))
  where
    by_test : (b : Bool) → InOrder 0 (left_open width (token_at k at at l) ws (ts ++ token_at k at at l ∷ [])).1 at
        → InOrder 0 (if b then left_open width (token_at k at at l) ws (ts ++ token_at k at at l ∷ []) else (w ∷ ws, ts)).1 at
    by_test true more = more
    by_test false more = h

closed_ordered : (width l : ℕ) (p : Place) → Ordered p → Ordered (closed width l p)
closed_ordered width l p h = left_ordered width p.at tokens.Dedent l p.indents p.tokens h

newline_ordered : (from l : ℕ) (p : Place) → InOrder 0 p.tokens from → from ≤ p.at → Ordered (with_newline from l p)
newline_ordered from l p h x = by_test (is_open_line p)
  where
    by_test : (b : Bool) → Ordered (if b then with_token (token_at tokens.Newline from p.at l) p else p)
    by_test true = one_more 0 p.tokens (token_at tokens.Newline from p.at l) from p.at h (le_refl from) x (le_refl p.at)
    by_test false = weaker 0 p.tokens from p.at h x

abbrev Further : ℕ → Place → Place → Type 0
Further n p q = (q.at ≡ p.at + n) × (q.tokens ≡ p.tokens)

passed_further : (n : ℕ) (p : Place) → Goes (Further n p) (passed n p)
unfolding passed
passed_further n p = by_test (nat_lt longest_text (p.at + n))
  where
    by_test : (b : Bool) → Goes (Further n p) (passed_to (if b then None else Some (p.at + n)) p)
    by_test true = tt
    by_test false = (refl, refl)

-- what was in order is so at a later place
kept : (n : ℕ) (p q : Place) → Ordered p → Further n p q → InOrder 0 q.tokens p.at
kept n p q h f = subst (λ (ts : List Token). InOrder 0 ts p.at) (sym f.1) h

later : (n : ℕ) (p q : Place) → Further n p q → p.at ≤ q.at
later n p q f = omega (arith, f.0)

passed_ordered : (n : ℕ) (p : Place) → Ordered p → Goes Ordered (passed n p)
passed_ordered n p h = by_next (passed n p) (passed_further n p)
  where
    by_next : (x : Next) → Goes (Further n p) x → Goes Ordered x
    by_next (Ok q) f = weaker 0 q.tokens p.at q.at (kept n p q h f) (later n p q f)
    by_next (Err e) f = tt

emitted_ordered : (k : TokenKind) (n : ℕ) (p : Place) → Ordered p → Goes Ordered (emitted k n p)
unfolding emitted
emitted_ordered k n p h =
    goes_on (Further n p) Ordered (passed n p) _ (passed_further n p)
    (λ q f. one_more 0 q.tokens (token_at k p.at q.at q.line) p.at q.at (kept n p q h f) (le_refl p.at) (later n p q f) (le_refl q.at))

ended_ordered : (n : ℕ) (p : Place) → Ordered p → Goes Ordered (ended n p)
unfolding ended
ended_ordered n p h = goes_on (Further n p) Ordered (passed n p) _ (passed_further n p) (λ q f. newline_ordered p.at q.line q (kept n p q h f) (later n p q f))

matched_ordered : (w : ℕ) (p : Place) → Ordered p → Goes Ordered (matched w p)
matched_ordered w p h = by_test (top p.indents == w)
  where
    by_test : (b : Bool) → Goes Ordered (if b then Ok p else Err (refusal p.line rules.L2))
    by_test true = h
    by_test false = tt

settled_ordered : (p : Place) → Ordered p → Goes Ordered (settled p)
unfolding settled indented
settled_ordered p h = by_margin p.margin
  where
    by_test : (w : ℕ) (b : Bool) → Goes Ordered (if b then Ok (deeper w p) else matched w (closed w p.line p))
    by_test w true = one_more 0 p.tokens (token_at tokens.Indent p.at p.at p.line) p.at p.at h (le_refl p.at) (le_refl p.at) (le_refl p.at)
    by_test w false = matched_ordered w (closed w p.line p) (closed_ordered w p.line p h)

    by_margin : (m : Margin) → Goes Ordered (settled_by m p)
    by_margin margins.Blank = by_test (p.at - p.line_start) (nat_lt (top p.indents) (p.at - p.line_start))
    by_margin margins.Tabbed = tt
    by_margin margins.Closed = h

token_ordered : (k : TokenKind) (n : ℕ) (p : Place) → Ordered p → Goes Ordered (settled p >>= emitted k n)
token_ordered k n p h = goes_on Ordered Ordered (settled p) (emitted k n) (settled_ordered p h) (λ q o. emitted_ordered k n q o)

by_kind : (k : PieceKind) (n : ℕ) (p : Place) → Ordered p → Goes Ordered (taken_by k n p)
by_kind kinds.Space n p h = passed_ordered n p h
by_kind kinds.Comment n p h = passed_ordered n p h
by_kind kinds.Tab n p h = goes_on Ordered Ordered (passed n p) _ (passed_ordered n p h) (λ q o. o)
by_kind kinds.LineEnd n p h = ended_ordered n p h
by_kind (kinds.Token k) n p h = token_ordered k n p h
by_kind kinds.Opener n p h = goes_on Ordered Ordered (settled p >>= emitted tokens.Sign n) _ (token_ordered tokens.Sign n p h) (λ q o. o)
by_kind kinds.Closer n p h = goes_on Ordered Ordered (settled p >>= emitted tokens.Sign n) _ (token_ordered tokens.Sign n p h) (λ q o. o)
by_kind (kinds.Refused rule) n p h = goes_on Ordered Ordered (settled p) _ (settled_ordered p h) (λ q o. tt)

pub taken_ordered : (x : Piece) (p q : Place) → Ordered p → taken x p ≡ Ok q → Ordered q
unfolding taken
taken_ordered x p q h e = goes_to Ordered (taken_by x.kind x.size p) q (by_kind x.kind x.size p h) e

pub finished_ordered : (p : Place) → Ordered p → InOrder 0 (finished p) p.at
unfolding finished
finished_ordered p h =
    let q = with_newline p.at (last_line p) p in
    let here : q.at ≤ p.at = omega (arith, (newline_stays p.at (last_line p) p).0) in
    weaker 0 (closed 0 (last_line p) q).tokens q.at p.at (closed_ordered 0 (last_line p) q (newline_ordered p.at (last_line p) p h (le_refl p.at))) here
