-- How far a piece goes.
use Rattle.std.proofs.Common.{◌≡◌, ◌∙◌, ◌≤◌, ◌+◌, ◌-◌, ℕ, Bool, true, false, nat_lt, ◌==◌, Some, None, Ok, Err, refl, ap, subst, arith}
use Rattle.std.specs.Prelude.{if◌then◌else◌}
use Rattle.py_lexer.specs.declared.token.TokenKind.{TokenKind}
use Rattle.py_lexer.specs.declared.token.TokenKind.TheVariants as tokens
use Rattle.py_lexer.specs.declared.piece.PieceKind.{PieceKind}
use Rattle.py_lexer.specs.declared.piece.PieceKind.TheVariants as kinds
use Rattle.py_lexer.specs.declared.piece.Piece.{Piece}
use Rattle.py_lexer.specs.declared.reader.Margin.{Margin}
use Rattle.py_lexer.specs.declared.reader.Margin.TheVariants as margins
use Rattle.rp_base.specs.declared.rules.Rule.TheVariants as rules
use Rattle.py_lexer.specs.Layout.{refusal, Place, Next, ◌>>=◌, longest_text, passed_to, passed, emitted, ended, next_line, with_newline, is_open_line, with_token, token_at, indented, matched, closed, deeper, top, settled_by, settled, taken_by, taken}

-- said of where it goes on
abbrev pub Goes : (Place → Type 0) → Next → Type 0
Goes P (Ok q) = P q
Goes P (Err e) = Unit {0}

abbrev pub Stays : Place → Place → Type 0
Stays p q = (q.at ≡ p.at) × (q.line ≡ p.line) × (q.brackets ≡ p.brackets)

abbrev Passes : ℕ → Place → Place → Type 0
Passes n p q = (q.at ≡ p.at + n) × (q.at ≤ longest_text) × (q.line ≡ p.line) × (q.brackets ≡ p.brackets)

abbrev pub Moves : ℕ → Place → Place → Type 0
Moves n p q = (q.at ≡ p.at + n) × (q.at ≤ longest_text) × (q.line ≤ p.line + 1) × (q.brackets ≤ p.brackets + 1)

pub goes_on : (P Q : Place → Type 0) (x : Next) (f : Place → Next) → Goes P x → ((q : Place) → P q → Goes Q (f q)) → Goes Q (x >>= f)
goes_on P Q (Ok q) f h k = k q h
goes_on P Q (Err e) f h k = tt

pub goes_to : (P : Place → Type 0) (x : Next) (q : Place) → Goes P x → x ≡ Ok q → P q
goes_to P x q h e = subst (Goes P) e h

passed_passes : (n : ℕ) (p : Place) → Goes (Passes n p) (passed n p)
unfolding passed
passed_passes n p = by_test (nat_lt longest_text (p.at + n)) refl
  where
    by_test : (b : Bool) → nat_lt longest_text (p.at + n) ≡ b → Goes (Passes n p) (passed_to (if b then None else Some (p.at + n)) p)
    by_test true e = tt
    by_test false e = let low : p.at + n ≤ longest_text = grind arith in (refl, low, refl, refl)

emitted_passes : (k : TokenKind) (n : ℕ) (p : Place) → Goes (Passes n p) (emitted k n p)
unfolding emitted
emitted_passes k n p = goes_on (Passes n p) (Passes n p) (passed n p) _ (passed_passes n p) (λ q h. h)

pub newline_stays : (from l : ℕ) (p : Place) → Stays p (with_newline from l p)
newline_stays from l p = by_test (is_open_line p)
  where
    by_test : (b : Bool) → Stays p (if b then with_token (token_at tokens.Newline from p.at l) p else p)
    by_test true = (refl, refl, refl)
    by_test false = (refl, refl, refl)

loosely : (n : ℕ) (p q : Place) → Passes n p q → Moves n p q
loosely n p q h = (h.0, h.1, omega (arith, h.2), omega (arith, h.3))

ended_moves : (n : ℕ) (p : Place) → Goes (Moves n p) (ended n p)
unfolding ended
ended_moves n p = goes_on (Passes n p) (Moves n p) (passed n p) _ (passed_passes n p) (λ q h. by_line q (with_newline p.at q.line q) h (newline_stays p.at q.line q))
  where
    by_line : (q r : Place) → Passes n p q → Stays q r → Moves n p (next_line r)
    by_line q r h s = (s.0 ∙ h.0, omega (arith, h.1, s.0), omega (arith, h.2, s.1), omega (arith, h.3, s.2))

matched_stays : (w : ℕ) (p q : Place) → Stays p q → Goes (Stays p) (matched w q)
matched_stays w p q h = by_test (top q.indents == w)
  where
    by_test : (b : Bool) → Goes (Stays p) (if b then Ok q else Err (refusal q.line rules.L2))
    by_test true = h
    by_test false = tt

pub settled_stays : (p : Place) → Goes (Stays p) (settled p)
unfolding settled indented
settled_stays p = by_margin p.margin
  where
    by_test : (w : ℕ) (b : Bool) → Goes (Stays p) (if b then Ok (deeper w p) else matched w (closed w p.line p))
    by_test w true = (refl, refl, refl)
    by_test w false = matched_stays w p (closed w p.line p) (refl, refl, refl)

    by_width : (w : ℕ) → Goes (Stays p) (indented w p)
    by_width w = by_test w (nat_lt (top p.indents) w)

    by_margin : (m : Margin) → Goes (Stays p) (settled_by m p)
    by_margin margins.Blank = by_width (p.at - p.line_start)
    by_margin margins.Tabbed = tt
    by_margin margins.Closed = (refl, refl, refl)

-- the indentation, and then a token
token_passes : (k : TokenKind) (n : ℕ) (p : Place) → Goes (Passes n p) (settled p >>= emitted k n)
token_passes k n p = goes_on (Stays p) (Passes n p) (settled p) (emitted k n) (settled_stays p) (λ q s. after q s (emitted k n q) (emitted_passes k n q))
  where
    after : (q : Place) → Stays p q → (x : Next) → Goes (Passes n q) x → Goes (Passes n p) x
    after q s (Ok r) h = (h.0 ∙ ap (λ (a : ℕ). a + n) s.0, h.1, h.2 ∙ s.1, h.3 ∙ s.2)
    after q s (Err e) h = tt

moves_by : (k : PieceKind) (n : ℕ) (p : Place) → Goes (Moves n p) (taken_by k n p)
moves_by kinds.Space n p = loose n p (passed n p) (passed_passes n p)
  where
    loose : (n : ℕ) (p : Place) (x : Next) → Goes (Passes n p) x → Goes (Moves n p) x
    loose n p (Ok q) h = loosely n p q h
    loose n p (Err e) h = tt
moves_by kinds.Comment n p = loose n p (passed n p) (passed_passes n p)
  where
    loose : (n : ℕ) (p : Place) (x : Next) → Goes (Passes n p) x → Goes (Moves n p) x
    loose n p (Ok q) h = loosely n p q h
    loose n p (Err e) h = tt
moves_by kinds.Tab n p = goes_on (Passes n p) (Moves n p) (passed n p) _ (passed_passes n p) (λ q h. loosely n p q h)
moves_by kinds.LineEnd n p = ended_moves n p
moves_by (kinds.Token k) n p = loose n p (settled p >>= emitted k n) (token_passes k n p)
  where
    loose : (n : ℕ) (p : Place) (x : Next) → Goes (Passes n p) x → Goes (Moves n p) x
    loose n p (Ok q) h = loosely n p q h
    loose n p (Err e) h = tt
moves_by kinds.Opener n p = goes_on (Passes n p) (Moves n p) (settled p >>= emitted tokens.Sign n) _ (token_passes tokens.Sign n p) (λ q h. (h.0, h.1, omega (arith, h.2), omega (arith, h.3)))
moves_by kinds.Closer n p = goes_on (Passes n p) (Moves n p) (settled p >>= emitted tokens.Sign n) _ (token_passes tokens.Sign n p) (λ q h. (h.0, h.1, omega (arith, h.2), omega (arith, h.3)))
moves_by (kinds.Refused rule) n p = goes_on (Stays p) (Moves n p) (settled p) _ (settled_stays p) (λ q h. tt)

pub taken_moves : (x : Piece) (p q : Place) → taken x p ≡ Ok q → Moves x.size p q
unfolding taken
taken_moves x p q e = goes_to (Moves x.size p) (taken_by x.kind x.size p) q (moves_by x.kind x.size p) e
