-- Indentations match.
use Rattle.std.proofs.Common.{◌≡◌, ◌∙◌, ◌+◌, ◌<◌, ◌≤◌, nat_lt, ℕ, zero, suc, List, [], ◌∷◌, ◌++◌, length, take, drop, Bool, true, false, Ok, refl, sym, ap, subst, arith}
use Rattle.std.specs.Prelude.{if◌then◌else◌}
use Rattle.std.proofs.lemmas.Grind.{common_steps}
use Rattle.py_lexer.specs.declared.token.TokenKind.{TokenKind}
use Rattle.py_lexer.specs.declared.token.TokenKind.TheVariants as tokens
use Rattle.py_lexer.specs.declared.token.Token.{Token}
use Rattle.py_lexer.specs.Layout.{Place, token_at, last_line, left_open, is_open_line, with_token, closed, finished}
use Rattle.py_lexer.specs.Lines.{count, is_dedent, is_indent}
use Rattle.py_lexer.specs.Reading.{tokens_of}
use Rattle.py_lexer.proofs.PieceShapes.{Reads}
use Rattle.py_lexer.proofs.Following.{Kept, follows}

count_push : (p : TokenKind → Bool) (ts : List Token) (t : Token) → count p (ts ++ t ∷ []) ≡ count p ts + (if p t.kind then 1 else 0)
count_push p [] t = by_test (p t.kind)
  where
    by_test : (b : Bool) → (if b then 1 + 0 else 0) ≡ 0 + (if b then 1 else 0)
    by_test true = refl
    by_test false = refl
count_push p (s ∷ ts) t = by_test (p s.kind) (count_push p ts t)
  where
    by_test : (b : Bool) → count p (ts ++ t ∷ []) ≡ count p ts + (if p t.kind then 1 else 0) → (if b then 1 + count p (ts ++ t ∷ []) else count p (ts ++ t ∷ [])) ≡ (if b then 1 + count p ts else count p ts) + (if p t.kind then 1 else 0)
    by_test true h = omega (arith, h)
    by_test false h = h

-- in no front more end than begin
abbrev pub Fronts : List Token → Type 0
Fronts ts = (n : ℕ) → count is_dedent (take n ts) ≤ count is_indent (take n ts)

fronts_push : (ts : List Token) (t : Token) → Fronts ts → count is_dedent (ts ++ t ∷ []) ≤ count is_indent (ts ++ t ∷ []) → Fronts (ts ++ t ∷ [])
fronts_push ts t h whole n = by_order (nat_lt (length ts) n) refl
  where
    by_order : (b : Bool) → nat_lt (length ts) n ≡ b → count is_dedent (take n (ts ++ t ∷ [])) ≤ count is_indent (take n (ts ++ t ∷ []))
    by_order true e = let all : take n (ts ++ t ∷ []) ≡ ts ++ t ∷ [] = grind (arith, common_steps) in subst (λ (l : List Token). count is_dedent l ≤ count is_indent l) (sym all) whole
    by_order false e = let front : take n (ts ++ t ∷ []) ≡ take n ts = grind (arith, common_steps) in subst (λ (l : List Token). count is_dedent l ≤ count is_indent l) (sym front) (h n)

-- all indentations are wider than none
abbrev pub Wide : List ℕ → Type 0
Wide [] = Unit {0}
Wide (w ∷ ws) = (0 < w) × Wide ws

-- as many are open as began and did not end
pub record Matches (ts : List Token) (ws : List ℕ) : Type 0 where
  pub balance : count is_indent ts ≡ count is_dedent ts + length ws
  pub fronts : Fronts ts
  pub wide : Wide ws

other : (k : TokenKind) (s : List ℕ) → Reads k s → (is_indent k ≡ false) × (is_dedent k ≡ false)
other tokens.Name s h = (refl, refl)
other tokens.Keyword s h = (refl, refl)
other tokens.Int s h = (refl, refl)
other tokens.Text s h = (refl, refl)
other tokens.Bytes s h = (refl, refl)
other tokens.Sign s h = (refl, refl)
other tokens.Newline s h = (refl, refl)
other tokens.Indent s h = absurd h
other tokens.Dedent s h = absurd h

push_indent : (ts : List Token) (w : ℕ) (ws : List ℕ) (t : Token) → t.kind ≡ tokens.Indent → 0 < w → Matches ts ws → Matches (ts ++ t ∷ []) (w ∷ ws)
push_indent ts w ws t is more h =
    let up : count is_indent (ts ++ t ∷ []) ≡ count is_indent ts + 1 = count_push is_indent ts t ∙ ap (λ (k : TokenKind). count is_indent ts + (if is_indent k then 1 else 0)) is in
    let down : count is_dedent (ts ++ t ∷ []) ≡ count is_dedent ts + 0 = count_push is_dedent ts t ∙ ap (λ (k : TokenKind). count is_dedent ts + (if is_dedent k then 1 else 0)) is in
    let balance = h.balance in
    record { balance = omega (arith, up, down, balance); fronts = fronts_push ts t h.fronts (omega (arith, up, down, balance)); wide = (more, h.wide) }

push_dedent : (ts : List Token) (w : ℕ) (ws : List ℕ) (t : Token) → t.kind ≡ tokens.Dedent → Matches ts (w ∷ ws) → Matches (ts ++ t ∷ []) ws
push_dedent ts w ws t is h =
    let up : count is_indent (ts ++ t ∷ []) ≡ count is_indent ts + 0 = count_push is_indent ts t ∙ ap (λ (k : TokenKind). count is_indent ts + (if is_indent k then 1 else 0)) is in
    let down : count is_dedent (ts ++ t ∷ []) ≡ count is_dedent ts + 1 = count_push is_dedent ts t ∙ ap (λ (k : TokenKind). count is_dedent ts + (if is_dedent k then 1 else 0)) is in
    let balance = h.balance in
    record { balance = omega (arith, up, down, balance); fronts = fronts_push ts t h.fronts (omega (arith, up, down, balance)); wide = h.wide.1 }

push_other : (ts : List Token) (ws : List ℕ) (t : Token) → (is_indent t.kind ≡ false) × (is_dedent t.kind ≡ false) → Matches ts ws → Matches (ts ++ t ∷ []) ws
push_other ts ws t is h =
    let up : count is_indent (ts ++ t ∷ []) ≡ count is_indent ts + 0 = count_push is_indent ts t ∙ ap (λ (b : Bool). count is_indent ts + (if b then 1 else 0)) is.0 in
    let down : count is_dedent (ts ++ t ∷ []) ≡ count is_dedent ts + 0 = count_push is_dedent ts t ∙ ap (λ (b : Bool). count is_dedent ts + (if b then 1 else 0)) is.1 in
    let balance = h.balance in
    record { balance = omega (arith, up, down, balance); fronts = fronts_push ts t h.fronts (omega (arith, up, down, balance)); wide = h.wide }

abbrev Matched : Place → Type 0
Matched p = Matches p.tokens p.indents

matched_kept : (text : List ℕ) → Kept text Matched
matched_kept text = record {
  turns = λ p m b h. h;
  deepens = λ p w low more h. push_indent p.tokens w p.indents (token_at tokens.Indent p.at p.at p.line) refl (omega (arith, more)) h;
  closes = λ p w ws low is h. push_dedent p.tokens w ws (token_at tokens.Dedent p.at p.at p.line) refl (subst (Matches p.tokens) is h);
  emits = λ p k n some s h. push_other p.tokens p.indents (token_at k p.at (p.at + n) p.line) (other k (take n (drop p.at text)) s.0) h;
  passes = λ p n some s h. h;
  ends = λ p n some s h. h;
  ends_line = λ p n some s h. push_other p.tokens p.indents (token_at tokens.Newline p.at (p.at + n) p.line) (refl, refl) h;
}

-- where the text ends, all are closed
all_close : (dedent : Token) (ws : List ℕ) (ts : List Token) → dedent.kind ≡ tokens.Dedent → Matches ts ws → Matches (left_open 0 dedent ws ts).1 []
unfolding left_open
all_close dedent [] ts is h = h
all_close dedent (w ∷ ws) ts is h = by_test (nat_lt 0 w) refl (all_close dedent ws (ts ++ dedent ∷ []) is (push_dedent ts w ws dedent is h))
  where
    by_test : (b : Bool) → nat_lt 0 w ≡ b → Matches (left_open 0 dedent ws (ts ++ dedent ∷ [])).1 [] → Matches (if b then left_open 0 dedent ws (ts ++ dedent ∷ []) else (w ∷ ws, ts)).1 []
    by_test true e more = more
    by_test false e more = let low : w ≡ 0 = grind arith in absurd (omega (arith, low, h.wide.0))

finished_matches : (p : Place) → Matched p → Matches (finished p) []
unfolding finished
finished_matches p h = by_test (is_open_line p)
  where
    by_test : (b : Bool) → Matches (closed 0 (last_line p) (if b then with_token (token_at tokens.Newline p.at p.at (last_line p)) p else p)).tokens []
    by_test true = all_close (token_at tokens.Dedent p.at p.at (last_line p)) p.indents (p.tokens ++ token_at tokens.Newline p.at p.at (last_line p) ∷ []) refl (push_other p.tokens p.indents (token_at tokens.Newline p.at p.at (last_line p)) (refl, refl) h)
    by_test false = all_close (token_at tokens.Dedent p.at p.at (last_line p)) p.indents p.tokens refl h

no_tokens : Matches [] []
no_tokens = record { balance = refl; fronts = none; wide = tt }
  where
    none : Fronts []
    none zero = omega arith
    none (suc n) = omega arith

all_match : (text : List ℕ) (ts : List Token) → tokens_of text ≡ Ok ts → Matches ts []
all_match text ts e = let found = follows text Matched (matched_kept text) no_tokens ts e in subst (λ (l : List Token). Matches l []) (sym found.are) (finished_matches found.last found.holds)

pub as_many : (text : List ℕ) (ts : List Token) → tokens_of text ≡ Ok ts → count is_dedent ts ≡ count is_indent ts
as_many text ts e = let h = all_match text ts e in let balance = h.balance in omega (arith, balance)

pub never_more : (text : List ℕ) (ts : List Token) → tokens_of text ≡ Ok ts → Fronts ts
never_more text ts e = (all_match text ts e).fronts
